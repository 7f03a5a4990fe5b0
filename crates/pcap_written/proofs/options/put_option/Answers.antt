use Rattle.pcap_core.specs.Codec.{IsCodec}
use Rattle.pcap_written.proofs.Forms.{option_put}
use Rattle.pcap_written.proofs.options.put_option.Goals as goal

pub returns : goal.returns
returns g c =
    let codec : IsCodec g.B.ByteOrder.number_of g.B.ByteOrder.bytes_of = record { again = g.met.B.ByteOrder.reads_back; wide = g.met.B.ByteOrder.length_bytes } in
    option_put g.B.ByteOrder.number_of g.B.ByteOrder.bytes_of codec g.O.WrittenOption.kind (g.O.WrittenOption.view c.args.option.now) c.in-Some.code c.in-Ok.len c.in-Some.form c.in-Some.ensures c.in-Ok.ensures
    c.args.out.now.items c.put_u16.new.out.items c.put_u16-2.new.out.items c.put.new.out.items c.put_padding.new.out.items c.in_ok-put_u16.ensures c.in_ok-put_u16-2.ensures c.in_ok-put.ensures c.in_ok-put_padding.ensures
