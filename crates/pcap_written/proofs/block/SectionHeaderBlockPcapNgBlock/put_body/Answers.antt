use Rattle.std.proofs.Common.{◌≡◌, ◌++◌, ℕ, List, ap, ◌∙◌, append_assoc, subst, map, rules}
use Rattle.std.specs.Prelude.{FitsSigned, ℤ}
use Rattle.std.specs.Int.{w64, cast_unsigned}
use Rattle.std.proofs.lemmas.Int.{to_z-of_z}
use Rattle.byteorder.specs.Endian.{big_bytes}
use Rattle.pcap_options.specs.SectionOption.{section_header, section_entry}
use Rattle.pcap_blocks.specs.SectionHeader.{section_of}
use Rattle.pcap_options.specs.declared.section_option.SectionHeaderOption.{SectionHeaderOption}
use Rattle.pcap_written.specs.Text.{list_text}
use Rattle.pcap_written.specs.Bodies.{section_text}
use Rattle.pcap_written.specs.Fits.{AreFit, IsFitSection}
use Rattle.pcap_written.specs.Flaws.{ListFlaw}
use Rattle.pcap_written.specs.Puts.{Puts}
use Rattle.pcap_written.proofs.Puts.{puts_last}
use Rattle.pcap_written.proofs.block.SectionHeaderBlockPcapNgBlock.put_body.Goals as goal

pub returns : goal.returns
returns g c =
    let order = g.B.ByteOrder.number_of in
    let write = g.B.ByteOrder.bytes_of in
    let s = section_of c.args.self.now in
    let kind = section_header in
    let bits = cast_unsigned w64 s.section_length in
    let fits : FitsSigned w64 c.args.self.now.section_length = search rules in
    let mid = c.put_i64.new.out.items in
    let list = list_text write kind s.options in
    let head = big_bytes 4 s.magic ++ (write 2 s.major_version ++ (write 2 s.minor_version ++ write 8 bits)) in
    let behind : mid ≡ c.args.out.now.items ++ head = c.in_ok-put_i64.ensures ∙ ap (λ (z : ℤ). c.put_u16-2.new.out.items ++ write 8 (cast_unsigned w64 z)) (to_z-of_z w64 s.section_length fits) ∙ ap (λ (t : List ℕ). t ++ write 8 bits) (c.in_ok-put_u16-2.ensures ∙ ap (λ (t : List ℕ). t ++ write 2 s.minor_version) (c.in_ok-put_u16.ensures ∙ ap (λ (t : List ℕ). t ++ write 2 s.major_version) c.in_ok-put_u32.ensures)) ∙ simp append_assoc in
    let put : Puts (AreFit order write kind s.options) (ListFlaw order write kind s.options) list mid c.put_options.new.out.items c.put_options.result =
    subst (λ (os : List SectionHeaderOption). Puts (AreFit order write kind (map section_entry os)) (ListFlaw order write kind (map section_entry os)) (list_text write kind (map section_entry os)) mid c.put_options.new.out.items c.put_options.result) c.as_slice.ensures.value c.put_options.ensures in
    let whole = puts_last (AreFit order write kind s.options) (IsFitSection order write s) (ListFlaw order write kind s.options) (ListFlaw order write kind s.options) head list c.args.out.now.items mid c.put_options.new.out.items c.put_options.result
    (λ fit_options. record { magic = search; major = search; minor = search; length_fits = fits; options = fit_options }) (λ flaw x. x) behind put in
    let split : head ++ list ≡ section_text write s = simp append_assoc in
    subst (λ (text : List ℕ). Puts (IsFitSection order write s) (ListFlaw order write kind s.options) text c.args.out.now.items c.put_options.new.out.items c.put_options.result) split whole
