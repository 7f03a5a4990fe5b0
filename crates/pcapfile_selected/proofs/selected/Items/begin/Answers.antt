use Rattle.std.proofs.Common.{◌≡◌, Err, inl, inr, rules}
use Rattle.pcapfile_selected.proofs.selected.Items.begin.Goals as goal

pub returns-in_err-packets-in-Pcap : goal.returns-in_err-packets-in-Pcap
returns-in_err-packets-in-Pcap g c =
    let failed : c.from_residual-in_err-packets-in-Pcap.result ≡ Err c.in_err-packets-in-Pcap.field-0.0 = search rules in
    rw failed (inr (c.format_of.new.input, c.format_of.ensures.keeps, inl c.in_err-packets-in-Pcap.ensures.fails))

pub returns-in_err-place-in-PcapNg : goal.returns-in_err-place-in-PcapNg
returns-in_err-place-in-PcapNg g c =
    let failed : c.from_residual-in_err-place-in-PcapNg.result ≡ Err c.in_err-place-in-PcapNg.field-0.0 = search rules in
    rw failed (inr (c.format_of.new.input, c.format_of.ensures.keeps, inr c.in_err-place-in-PcapNg.ensures.fails))

pub returns-in_ok-packets-in-Pcap : goal.returns-in_ok-packets-in-Pcap
returns-in_ok-packets-in-Pcap g c = (c.format_of.new.input, c.format_of.ensures.keeps, c.in_ok-packets-in-Pcap.ensures.begins)

pub returns-in_ok-place-in-PcapNg : goal.returns-in_ok-place-in-PcapNg
returns-in_ok-place-in-PcapNg g c = (c.format_of.new.input, c.format_of.ensures.keeps, c.in_ok-place-in-PcapNg.ensures.begins)
