-- Bytes that are appended to others, one part after another.
use Rattle.std.proofs.Common.{◌≡◌, ℕ, List, ◌++◌, ap, ◌∙◌, append_assoc, Result, Ok, Err, Option, inr}
use Rattle.std.specs.Prelude.{false}
use Rattle.pcap_core.specs.declared.common.Endianness.{Endianness}
use Rattle.pcap_core.specs.declared.errors.PcapError.{PcapError}
use Rattle.pcap_core.specs.declared.errors.PcapError.TheVariants as errors
use Rattle.pcap_core.specs.Answer.{Order}
use Rattle.pcap_blocks.specs.ParsedBlock.{Body}
use Rattle.pcap_options.specs.InterfaceOption.{interface_description}
use Rattle.pcap_blocks.specs.InterfaceDescription.{Interface}
use Rattle.pcap_written.specs.declared.unwritable.Unwritable.{Unwritable}
use Rattle.pcap_written.specs.declared.unwritable.Unwritable.TheVariants as flaws
use Rattle.pcap_written.specs.declared.unwritable.Unput.{Unput}
use Rattle.pcap_written.specs.declared.unwritable.Unput.TheVariants.{Memory, Unfit}
use Rattle.pcap_core.specs.Codec.{Encoder}
use Rattle.pcap_written.specs.Flaws.{ListFlaw, InterfaceFlaw}
use Rattle.pcap_written.specs.Puts.{IsShownAs, Puts, RefusesPut}
use Rattle.pcap_written.specs.declared.writer.PcapNgWriter.{PcapNgWriter}
use Rattle.pcap_written.specs.Bodies.{head_of}
use Rattle.pcap_written.specs.Writing.{FlawIn, IsKept, IsPlaced, WritesBlock, has_failed, place_of}

-- A reason why a part can't be written is a reason for the whole.
pub refuses_more : (P Q : Unwritable → Type 0) → ((flaw : Unwritable) → P flaw → Q flaw) → (e : Unput) → RefusesPut P e → RefusesPut Q e
refuses_more P Q step (Memory e) x = tt
refuses_more P Q step (Unfit flaw) x = step flaw x

-- The last part of a text was appended.
pub puts_last : (Fit Whole : Type 0) (Stands Against : Unwritable → Type 0) (head tail old mid new : List ℕ) (result : Result (Unit {0}) Unput) → (Fit → Whole) → ((flaw : Unwritable) → Stands flaw → Against flaw) → mid ≡ old ++ head
    → Puts Fit Stands tail mid new result → Puts Whole Against (head ++ tail) old new result
puts_last Fit Whole Stands Against head tail old mid new (Ok u) fit step is put = (put.0 ∙ ap (λ (s : List ℕ). s ++ tail) is ∙ append_assoc old head tail, fit put.1)
puts_last Fit Whole Stands Against head tail old mid new (Err e) fit step is put = refuses_more Stands Against step e put

-- A reason why the options of an interface can't be written is a reason for the interface.
pub interface_flaw : (order : Order) (write : Encoder) (i : Interface) (flaw : Unwritable) → ListFlaw order write interface_description i.options flaw → InterfaceFlaw order write i flaw
interface_flaw order write i flaws.LinkTooLarge x = absurd x.4
interface_flaw order write i flaws.LinkMisnamed x = absurd x.4
interface_flaw order write i _ x = x

-- A block that could not be appended to the buffer is not written, and the error is returned.
pub not_put : {W : Type 0} (contents : W → Option (List ℕ)) (old new : PcapNgWriter W) (body : Body) (order : Endianness) → has_failed old ≡ false → IsKept contents old new → IsPlaced (place_of old) (head_of body) order
    → (e : Unput) (shown : PcapError) → RefusesPut (FlawIn order body) e → IsShownAs e shown → WritesBlock contents old new body (Err shown)
not_put contents old new body order good kept placed (Memory e) (errors.OutOfMemory shown) refused is = (good, kept)
not_put contents old new body order good kept placed (Unfit flaw) (errors.InvalidField message) refused is = (good, (kept, (flaw, is, inr (order, placed, refused))))
not_put contents old new body order good kept placed _ _ refused is = absurd is
