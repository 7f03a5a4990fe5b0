-- Blocks of bytes are read as they were written, and blocks that were read are written as their bytes.
use Rattle.std.proofs.Common.{◌≡◌, ◌≢◌, ℕ, ◌≤◌, ◌+◌, ◌%◌, List, [], ◌∷◌, ◌++◌, length, take, drop, refl, sym, inl, inr, rules, ap, subst, ◌∙◌, append_assoc, take-append-drop, length-append, arith}
use Rattle.std.specs.Prelude.{◌==◌, false, Option, Some, Ok}
use Rattle.std.proofs.lemmas.Bool.{cases_eq, ne_eqb}
use Rattle.std.proofs.lemmas.List.{length-take-le, take-append-le}
use Rattle.byteorder.specs.Endian.{big_number, big_bytes}
use Rattle.pcap_core.specs.declared.common.Endianness.{Endianness}
use Rattle.pcap_core.specs.declared.common.Endianness.TheVariants.{Big, Little}
use Rattle.pcap_core.specs.Answer.{Number, number_in}
use Rattle.pcap_core.specs.Bytes.{IsBytes}
use Rattle.pcap_core.specs.Codec.{number_bytes}
use Rattle.pcap_core.proofs.Codec.{codec, number_again}
use Rattle.pcap_core.proofs.WrittenNumbers.{back_bytes, number_rest, number_written}
use Rattle.pcap_blocks.specs.declared.block_type.BlockType.{BlockType}
use Rattle.pcap_blocks.specs.declared.block_type.BlockType.TheVariants as types
use Rattle.pcap_blocks.specs.BlockType.{block_type, type_number}
use Rattle.pcap_blocks.specs.SectionHeader.{magic_order}
use Rattle.pcap_written.specs.declared.place.Place.{Place}
use Rattle.pcap_written.specs.Bodies.{block_text}
use Rattle.pcap_written.specs.Raw.{IsFitRaw, Raw, TellsRaw, raw_text}
use Rattle.pcap_ng.specs.Frames.{Framed, own_order, FrameHeadText, FrameTail, FrameText}
use Rattle.pcap_ng.specs.RawBlocks.{framed_raw, raw_in}

any_number : (s : List ℕ) → 4 ≤ length s → Number big_number 4 (big_number 4 (take 4 s)) s (drop 4 s)
any_number s long = record { bytes = take 4 s; text = sym (take-append-drop 4 s); length_is = length-take-le 4 s long; value = refl }

-- The type number of a section header has the same bytes in both byte orders.
pub same_both_ways : (e : Endianness) → number_bytes e 4 0x0A0D0D0A ≡ big_bytes 4 0x0A0D0D0A
same_both_ways Big = refl
same_both_ways Little = refl

framed_text : (e : Endianness) (type : ℕ) (body rest : List ℕ)
    → block_text (number_bytes e) type body ++ rest ≡ number_bytes e 4 type ++ (number_bytes e 4 (length body + 12) ++ (body ++ (number_bytes e 4 (length body + 12) ++ rest)))
framed_text e type body rest = simp append_assoc

-- The bytes after the length of a block of bytes.
abbrev behind_length : Raw → List ℕ → List ℕ
behind_length raw rest = raw.body ++ (number_bytes raw.endianness 4 (length raw.body + 12) ++ rest)

-- A block is read if the byte order of the state, or its magic number, gives its own order.
frame_again : (there : Endianness) (raw : Raw) (rest : List ℕ) → IsFitRaw raw
    → own_order there (type_number raw.type_) (big_number 4 (take 4 (behind_length raw rest))) ≡ Some raw.endianness
    → number_bytes raw.endianness 4 (type_number raw.type_) ≡ number_bytes there 4 (type_number raw.type_)
    → FrameText there (framed_raw raw) (raw_text raw ++ rest) rest
frame_again there raw rest fit own same =
    let e = raw.endianness in
    let write = number_bytes e in
    let type = type_number raw.type_ in
    let len = length raw.body + 12 in
    let after = behind_length raw rest in
    let long : 4 ≤ length after = omega (arith, length-append raw.body (write 4 len ++ rest), length-append (write 4 len) rest, (codec e).wide 4 len) in
    let head : FrameHeadText there type e len (number_bytes there 4 type ++ (write 4 len ++ after)) after = record {
      after_number = write 4 len ++ after;
      more = drop 4 after;
      magic = big_number 4 (take 4 after);
      number_is = number_again (number_in there) (number_bytes there) (codec there) 4 type (write 4 len ++ after) fit.number;
      len_is = number_again (number_in e) write (codec e) 4 len after fit.short;
      magic_is = any_number after long;
      own_is = own;
    } in
    let tail : FrameTail e len raw.body len after rest = record {
      after_body = write 4 len ++ rest;
      body_is = refl;
      length_is = refl;
      trailer_is = number_again (number_in e) write (codec e) 4 len rest fit.short;
    } in
    let text : FrameText there (framed_raw raw) (number_bytes there 4 type ++ (write 4 len ++ after)) rest = record {
      number = type;
      after = after;
      head = head;
      type_is = sym fit.named;
      aligned = omega (arith, fit.aligned);
      tail = tail;
      same = refl;
    } in
    let both : raw_text raw ++ rest ≡ number_bytes there 4 type ++ (write 4 len ++ after) =
    framed_text e type raw.body rest ∙ ap (λ (t : List ℕ). t ++ (write 4 len ++ after)) same in
    subst (λ (t : List ℕ). FrameText there (framed_raw raw) t rest) (sym both) text

-- A block that is not a section header is read in its section's byte order.
pub plain_again : (raw : Raw) (rest : List ℕ) → IsFitRaw raw → (type_number raw.type_ == 0x0A0D0D0A) ≡ false → FrameText raw.endianness (framed_raw raw) (raw_text raw ++ rest) rest
unfolding own_order
plain_again raw rest fit other = frame_again raw.endianness raw rest fit (rw other refl) refl

-- A body that begins with a magic number has at least four bytes.
long_enough : (body : List ℕ) (e : Endianness) → length body % 4 ≡ 0 → magic_order (big_number 4 (take 4 body)) ≡ Some e → 4 ≤ length body
unfolding magic_order
long_enough [] e aligned named = absurd cc
long_enough (byte ∷ bytes) e aligned named = omega (arith, aligned)

-- A section header is read in any byte order of the state before it.
pub section_again : (there e : Endianness) (body rest : List ℕ) → IsFitRaw (record { type_ = types.SectionHeader; endianness = e; body = body })
    → magic_order (big_number 4 (take 4 body)) ≡ Some e
    → FrameText there (framed_raw (record { type_ = types.SectionHeader; endianness = e; body = body })) (raw_text (record { type_ = types.SectionHeader; endianness = e; body = body }) ++ rest) rest
unfolding own_order
section_again there e body rest fit named =
    let raw : Raw = record { type_ = types.SectionHeader; endianness = e; body = body } in
    let behind = number_bytes e 4 (length body + 12) ++ rest in
    let front : take 4 (body ++ behind) ≡ take 4 body = take-append-le 4 body behind (long_enough body e fit.aligned named) in
    let own : magic_order (big_number 4 (take 4 (body ++ behind))) ≡ Some e = subst (λ (t : List ℕ). magic_order (big_number 4 t) ≡ Some e) (sym front) named in
    frame_again there raw rest fit own (same_both_ways e ∙ sym (same_both_ways there))

-- IsRead there raw rest: a block of bytes that was written at a place with byte order `there` is read as it was.
abbrev IsRead : Endianness → Raw → List ℕ → Type 0
IsRead there raw rest = FrameText there (framed_raw raw) (raw_text raw ++ rest) rest

-- A block that is not a section header has the byte order of its section.
read_there : (there e : Endianness) (raw : Raw) (rest : List ℕ) → ◌≡◌ {A = Option Endianness} (Some there) (Some e) → e ≡ raw.endianness
    → FrameText raw.endianness (framed_raw raw) (raw_text raw ++ rest) rest → IsRead there raw rest
read_there there e raw rest named same text =
    let is : raw.endianness ≡ there = cc in
    subst (λ (o : Endianness). FrameText o (framed_raw raw) (raw_text raw ++ rest) rest) is text

pub raw_again : (at behind : Place) (type : BlockType) (e : Endianness) (body rest : List ℕ) → TellsRaw at (record { type_ = type; endianness = e; body = body }) (Ok behind)
    → IsRead at.endianness (record { type_ = type; endianness = e; body = body }) rest
raw_again at behind types.SectionHeader e body rest (fit, place, same) =
    section_again at.endianness e body rest fit (subst (λ (o : Endianness). magic_order (big_number 4 (take 4 body)) ≡ Some o) same place.0.named)
raw_again at behind types.InterfaceDescription e body rest (fit, place, same) =
    read_there at.endianness behind.endianness (record { type_ = types.InterfaceDescription; endianness = e; body = body }) rest place.0.named same (plain_again _ rest fit refl)
raw_again at behind types.Packet e body rest (fit, place, same) =
    read_there at.endianness behind.endianness (record { type_ = types.Packet; endianness = e; body = body }) rest place.0.named same (plain_again _ rest fit refl)
raw_again at behind types.SimplePacket e body rest (fit, place, same) =
    read_there at.endianness behind.endianness (record { type_ = types.SimplePacket; endianness = e; body = body }) rest place.0.named same (plain_again _ rest fit refl)
raw_again at behind types.NameResolution e body rest (fit, place, same) =
    read_there at.endianness behind.endianness (record { type_ = types.NameResolution; endianness = e; body = body }) rest place.0.named same (plain_again _ rest fit refl)
raw_again at behind types.InterfaceStatistics e body rest (fit, place, same) =
    read_there at.endianness behind.endianness (record { type_ = types.InterfaceStatistics; endianness = e; body = body }) rest place.0.named same (plain_again _ rest fit refl)
raw_again at behind types.EnhancedPacket e body rest (fit, place, same) =
    read_there at.endianness behind.endianness (record { type_ = types.EnhancedPacket; endianness = e; body = body }) rest place.0.named same (plain_again _ rest fit refl)
raw_again at behind types.SystemdJournalExport e body rest (fit, place, same) =
    read_there at.endianness behind.endianness (record { type_ = types.SystemdJournalExport; endianness = e; body = body }) rest place.0.named same (plain_again _ rest fit refl)
raw_again at behind (types.Unknown n) e body rest (fit, place, same) =
    let differ : n ≢ 0x0A0D0D0A = λ is. let wrong : block_type 0x0A0D0D0A ≡ types.Unknown n = subst (λ (k : ℕ). block_type k ≡ types.Unknown n) is fit.named in absurd cc in
    read_there at.endianness behind.endianness (record { type_ = types.Unknown n; endianness = e; body = body }) rest place.0.named same (plain_again _ rest fit (ne_eqb n 0x0A0D0D0A differ))

-- The number of a type that was read from a number is that number.
number_of_type : (n : ℕ) → type_number (block_type n) ≡ n
number_of_type n = search rules

-- The type number of a block has the same bytes in the order of its section and in its own order.
type_bytes : (there own : Endianness) (number magic : ℕ) → own_order there number magic ≡ Some own → number_bytes there 4 number ≡ number_bytes own 4 number
unfolding own_order
type_bytes there own number magic names =
    elim (cases_eq number 0x0A0D0D0A) [
      | inl is ↦ subst (λ (n : ℕ). number_bytes there 4 n ≡ number_bytes own 4 n) (sym is) (same_both_ways there ∙ sym (same_both_ways own))
      | inr differ ↦ let same : there ≡ own = let named : ◌≡◌ {A = Option Endianness} (Some there) (Some own) = rw (ne_eqb number 0x0A0D0D0A differ) at names in cc in ap (λ (o : Endianness). number_bytes o 4 number) same
    ]

-- The bytes of a block that is read are the text of its type, its byte order and its body.
pub text_of_frame : (there : Endianness) (b : Framed) (s rest : List ℕ) → IsBytes s → FrameText there b s rest → s ≡ raw_text (raw_in b) ++ rest
text_of_frame there b s rest fits f =
    let own = b.endianness in
    let head = f.head in
    let fits_1 = number_rest (number_in there) 4 f.number s head.after_number fits head.number_is in
    let fits_2 = number_rest (number_in own) 4 b.initial_len head.after_number f.after fits_1 head.len_is in
    let fits_3 : IsBytes f.tail.after_body = back_bytes b.body f.tail.after_body (subst IsBytes f.tail.body_is fits_2) in
    let e1 = number_written there f.number s head.after_number fits head.number_is in
    let e2 = number_written own b.initial_len head.after_number f.after fits_1 head.len_is in
    let e3 = number_written own b.trailer_len f.tail.after_body rest fits_3 f.tail.trailer_is ∙ ap (λ (n : ℕ). number_bytes own 4 n ++ rest) f.same in
    let len : b.initial_len ≡ length b.body + 12 = f.tail.length_is in
    let type : type_number b.type_ ≡ f.number = ap type_number f.type_is ∙ number_of_type f.number in
    let parts : s ≡ number_bytes own 4 f.number ++ (number_bytes own 4 b.initial_len ++ (b.body ++ (number_bytes own 4 b.initial_len ++ rest))) =
    e1 ∙ ap (λ (t : List ℕ). number_bytes there 4 f.number ++ t) (e2 ∙ ap (λ (t : List ℕ). number_bytes own 4 b.initial_len ++ t) (f.tail.body_is ∙ ap (λ (t : List ℕ). b.body ++ t) e3))
    ∙ ap (λ (t : List ℕ). t ++ (number_bytes own 4 b.initial_len ++ (b.body ++ (number_bytes own 4 b.initial_len ++ rest)))) (type_bytes there own f.number head.magic head.own_is) in
    let lens : s ≡ number_bytes own 4 (type_number b.type_) ++ (number_bytes own 4 (length b.body + 12) ++ (b.body ++ (number_bytes own 4 (length b.body + 12) ++ rest))) =
    rw (type, ← len) parts in
    lens ∙ sym (framed_text own (type_number b.type_) b.body rest)
