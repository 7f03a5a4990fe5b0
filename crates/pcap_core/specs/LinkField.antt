-- The field of a link type in the header of a capture ('File Header', LinkType).
use Rattle.std.specs.Prelude.{◌≡◌, ◌==◌, ◌*◌, ◌/◌, ◌%◌, ◌^◌, if◌then◌else◌, ℕ, Option, Some, None}
use Rattle.pcap_core.specs.declared.link_field.LinkField.{LinkField}
use Rattle.pcap_core.specs.Link.{Link}

-- fcs_bytes n: bit 26 of the field n says whether the bits 28 to 31 count the frame check sequence of each packet, in units of two bytes.
abbrev pub fcs_bytes : ℕ → Option ℕ
fcs_bytes n = if n / 2 ^ 26 % 2 == 1 then Some (n / 2 ^ 28 * 2) else None

-- SaysLink n said: the field n has a link type in its low 16 bits and a length of the frame check sequence, and said is both.
pub record SaysLink (n : ℕ) (said : LinkField) : Type 0 where
  pub link : Link (n % 2 ^ 16) said.link
  pub fcs_len : said.fcs_len ≡ fcs_bytes n
