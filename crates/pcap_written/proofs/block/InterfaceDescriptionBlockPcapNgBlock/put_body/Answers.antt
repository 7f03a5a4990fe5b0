use Rattle.std.proofs.Common.{◌≡◌, ◌<◌, ◌^◌, ◌++◌, ℕ, List, ap, ◌∙◌, append_assoc, subst, map}
use Rattle.pcap_core.specs.Link.{link_number}
use Rattle.pcap_options.specs.InterfaceOption.{interface_description, interface_entry}
use Rattle.pcap_blocks.specs.InterfaceDescription.{interface_of}
use Rattle.pcap_options.specs.declared.interface_option.InterfaceDescriptionOption.{InterfaceDescriptionOption}
use Rattle.pcap_written.specs.Text.{list_text}
use Rattle.pcap_written.specs.Fits.{AreFit, IsFitInterface}
use Rattle.pcap_written.specs.Flaws.{ListFlaw, InterfaceFlaw}
use Rattle.pcap_written.specs.Puts.{Puts}
use Rattle.pcap_written.proofs.Puts.{interface_flaw, puts_last}
use Rattle.pcap_written.proofs.block.InterfaceDescriptionBlockPcapNgBlock.put_body.Goals as goal

pub returns : goal.returns
returns g c =
    let order = g.B.ByteOrder.number_of in
    let write = g.B.ByteOrder.bytes_of in
    let i = interface_of c.args.self.now in
    let n = c.in_ok-link.link in
    let told = c.in_ok-link.ensures in
    let kind = interface_description in
    let mid = c.put_u32.new.out.items in
    let list = list_text write kind i.options in
    let head = write 2 n ++ (write 2 i.reserved ++ write 4 i.snaplen) in
    let behind : mid ≡ c.args.out.now.items ++ head = c.in_ok-put_u32.ensures ∙ ap (λ (s : List ℕ). s ++ write 4 i.snaplen) (c.in_ok-put_u16-2.ensures ∙ ap (λ (s : List ℕ). s ++ write 2 i.reserved) c.in_ok-put_u16.ensures) ∙ simp append_assoc in
    let put : Puts (AreFit order write kind i.options) (ListFlaw order write kind i.options) list mid c.put_options.new.out.items c.put_options.result =
    subst (λ (os : List InterfaceDescriptionOption). Puts (AreFit order write kind (map interface_entry os)) (ListFlaw order write kind (map interface_entry os)) (list_text write kind (map interface_entry os)) mid c.put_options.new.out.items c.put_options.result) c.as_slice.ensures.value c.put_options.ensures in
    let whole = puts_last (AreFit order write kind i.options) (IsFitInterface order write i) (ListFlaw order write kind i.options) (InterfaceFlaw order write i) head list
    c.args.out.now.items mid c.put_options.new.out.items c.put_options.result
    (λ fit. record { plain = told.2; link = subst (λ (k : ℕ). k < 2 ^ 16) told.0 told.1; reserved = search; snaplen = search; options = fit }) (interface_flaw order write i) behind put in
    let split : head ++ list ≡ write 2 (link_number i.linktype) ++ (write 2 i.reserved ++ (write 4 i.snaplen ++ list)) = ap (λ (k : ℕ). (write 2 k ++ (write 2 i.reserved ++ write 4 i.snaplen)) ++ list) told.0 ∙ simp append_assoc in
    subst (λ (text : List ℕ). Puts (IsFitInterface order write i) (InterfaceFlaw order write i) text c.args.out.now.items c.put_options.new.out.items c.put_options.result) split whole
