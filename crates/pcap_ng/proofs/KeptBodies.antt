-- A block's change of what is in force, and the kept copy of its body, lead to the same state as the body.
use Rattle.std.proofs.Common.{◌≡◌, ℕ, List, [], ◌∷◌, ◌++◌, true, Bool, refl, sym, ap, subst, inl, Result, Ok, Err}
use Rattle.std.specs.Prelude.{⊤}
use Rattle.pcap_core.specs.declared.errors.PcapError.{PcapError}
use Rattle.pcap_core.specs.Answer.{number_in, whole, Refuses}
use Rattle.pcap_core.specs.Errors.{IsMemory}
use Rattle.pcap_core.specs.Faults.{Fault}
use Rattle.pcap_items.specs.Headed.{HeadReading, good, bad}
use Rattle.pcap_core.proofs.Refusals.{refuses_memory}
use Rattle.pcap_blocks.specs.declared.block_type.BlockType.{BlockType}
use Rattle.pcap_blocks.specs.declared.block_type.BlockType.TheVariants as types
use Rattle.pcap_blocks.specs.declared.section_header.SectionHeaderBlock.{SectionHeaderBlock}
use Rattle.pcap_blocks.specs.declared.interface_description.InterfaceDescriptionBlock.{InterfaceDescriptionBlock}
use Rattle.pcap_blocks.specs.SectionHeader.{Section, SectionSays, section_of}
use Rattle.pcap_blocks.specs.InterfaceDescription.{Interface, InterfaceSays, interface_of}
use Rattle.pcap_blocks.specs.ParsedBlock.{SectionBody, InterfaceBody, BodySays}
use Rattle.pcap_ng.specs.declared.pcapng.change.Change.{Change}
use Rattle.pcap_ng.specs.declared.pcapng.change.Change.TheVariants as changes
use Rattle.pcap_ng.specs.Bodies.{SaysOfBody}
use Rattle.pcap_ng.specs.Changes.{ChangeTells}
use Rattle.pcap_ng.specs.Frames.{Framed}
use Rattle.pcap_ng.specs.State.{State, opening, within, is_kept, is_read, leads, MeansIf, Means, AreKept, IsHeader, CanGrow, FollowTells, Keeps}
use Rattle.pcap_ng.proofs.Refusing.{refuses_wider}

pub read_means : (q : State) (b : Framed) (r : HeadReading State) → is_read q b.type_ ≡ true → MeansIf true q b r → Means q b r
read_means q b r is x = subst (λ (t : Bool). MeansIf t q b r) (sym is) x

memory_refuses : (M : Type 0) (P : Fault → Type 0) → M → (e : PcapError) → IsMemory e → Refuses M (λ n. ⊥) P e
memory_refuses M P may e memory = refuses_wider ⊤ M P P (λ grows. may) (λ fault shown. shown) e (refuses_memory (λ n. ⊥) P e memory)

module _ (b : Framed) (is : b.type_ ≡ types.SectionHeader) where
  pub read_section : (q : State) → is_read q b.type_ ≡ true
  read_section opening = refl
  read_section (within section interfaces) = ap is_kept is

  pub grows_section : (q : State) → CanGrow q b
  grows_section opening = inl (subst IsHeader (sym is) tt)
  grows_section (within section interfaces) = subst AreKept (sym is) tt

  pub leads_section : (q : State) (section : Section) → leads q (SectionBody section) ≡ good (within section [])
  leads_section opening section = refl
  leads_section (within s interfaces) section = refl

  section_said : (section : Section) (rest : List ℕ) → SectionSays b.body (whole section rest) → SaysOfBody b (whole (SectionBody section) rest)
  section_said section rest says =
      let said : BodySays (number_in b.endianness) types.SectionHeader b.body (whole (SectionBody section) rest) = (section, refl, says) in
      subst (λ (t : BlockType). BodySays (number_in b.endianness) t b.body (whole (SectionBody section) rest)) (sym is) said

  -- A section header leads to its section, whatever was in force.
  pub section_means : (q : State) (section : Section) (rest : List ℕ) → SectionSays b.body (whole section rest) → Means q b (good (within section []))
  section_means q section rest says = read_means q b (good (within section [])) (read_section q) (SectionBody section, rest, section_said section rest says, leads_section q section)

  pub section_unkept : (q : State) (e : PcapError) → IsMemory e → Refuses (CanGrow q b) (λ n. ⊥) (λ fault. Means q b (bad fault)) e
  section_unkept q e memory = memory_refuses (CanGrow q b) (λ fault. Means q b (bad fault)) (grows_section q) e memory

module _ (section : Section) (interfaces : List Interface) (b : Framed) where
  pub interface_means : (interface : Interface) (rest : List ℕ) → b.type_ ≡ types.InterfaceDescription → InterfaceSays (number_in b.endianness) b.body (whole interface rest)
      → Means (within section interfaces) b (good (within section (interfaces ++ interface ∷ [])))
  interface_means interface rest is says =
      let said : BodySays (number_in b.endianness) types.InterfaceDescription b.body (whole (InterfaceBody interface) rest) = (interface, refl, says) in
      let there : SaysOfBody b (whole (InterfaceBody interface) rest) = subst (λ (t : BlockType). BodySays (number_in b.endianness) t b.body (whole (InterfaceBody interface) rest)) (sym is) said in
      read_means (within section interfaces) b (good (within section (interfaces ++ interface ∷ []))) (ap is_kept is) (InterfaceBody interface, rest, there, refl)

  pub interface_unkept : (e : PcapError) → b.type_ ≡ types.InterfaceDescription → IsMemory e → Refuses (CanGrow (within section interfaces) b) (λ n. ⊥) (λ fault. Means (within section interfaces) b (bad fault)) e
  interface_unkept e is memory =
      memory_refuses (CanGrow (within section interfaces) b) (λ fault. Means (within section interfaces) b (bad fault)) (subst AreKept (sym is) tt) e memory

  pub section_follows : (new : State) (change : Change) (next : SectionHeaderBlock) (r : Result (Unit {0}) PcapError) → ChangeTells b (Ok change) → change ≡ changes.Section next
      → Keeps (within section interfaces) new (within (section_of next) []) r → FollowTells (within section interfaces) new b r
  section_follows new change next (Ok x) tells is kept =
      let told : ChangeTells b (Ok (changes.Section next)) = subst (λ (c : Change). ChangeTells b (Ok c)) is tells in
      rw kept (section_means b told.0 (within section interfaces) (section_of next) told.1 told.2)
  section_follows new change next (Err e) tells is kept =
      let told : ChangeTells b (Ok (changes.Section next)) = subst (λ (c : Change). ChangeTells b (Ok c)) is tells in
      (kept.0, section_unkept b told.0 (within section interfaces) e kept.1)

  pub interface_follows : (new : State) (change : Change) (next : InterfaceDescriptionBlock) (r : Result (Unit {0}) PcapError) → ChangeTells b (Ok change) → change ≡ changes.Interface next
      → Keeps (within section interfaces) new (within section (interfaces ++ interface_of next ∷ [])) r → FollowTells (within section interfaces) new b r
  interface_follows new change next (Ok x) tells is kept =
      let told : ChangeTells b (Ok (changes.Interface next)) = subst (λ (c : Change). ChangeTells b (Ok c)) is tells in
      rw kept (interface_means (interface_of next) told.1 told.0 told.2)
  interface_follows new change next (Err e) tells is kept =
      let told : ChangeTells b (Ok (changes.Interface next)) = subst (λ (c : Change). ChangeTells b (Ok c)) is tells in
      (kept.0, interface_unkept e told.0 kept.1)
