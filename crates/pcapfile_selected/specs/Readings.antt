-- This file defines captures of which all packets or the selected ones are read.
use Rattle.std.specs.Prelude.{◌≡◌, ℕ, List, Option, None, Some, Result, Ok, Err}
use Rattle.std.specs.Io.KnownBytes.{ReadConsumes}
use Rattle.std.specs.declared.io.Error.{Error}
use Rattle.pcap_core.specs.declared.errors.PcapError.{PcapError}
use Rattle.pcapfile_selected.specs.declared.reading.Reading.{Reading}
use Rattle.pcapfile_selected.specs.declared.reading.Reading.TheVariants as readings
use Rattle.pcapfile_selected.specs.declared.selecting.Tests.{Tests}
use Rattle.pcapfile_selected.specs.SelectedItems.{BeginsSelected, FailsToBegin, ReadsSelected}

-- The bytes of a capture that are left to read. Those of a selection are made while it is read, so none are known before.
abbrev pub left_of : {R : Type 0} → (R → Option (List ℕ)) → Reading R → Option (List ℕ)
left_of remaining (readings.All capture) = remaining capture
left_of remaining (readings.Selected selected) = None

-- Reads remaining old new result bytes: a read of all of a capture reads the capture, and a read of a selection gives the bytes made of it.
abbrev pub Reads : {R : Type 0} → (R → Option (List ℕ)) → Reading R → Reading R → Result ℕ Error → List ℕ → Type 0
Reads remaining (readings.All old) (readings.All new) result bytes = ReadConsumes (remaining old) (remaining new) result bytes
Reads remaining (readings.Selected old) (readings.Selected new) result bytes = ReadsSelected remaining old new result bytes
Reads remaining _ _ result bytes = ⊥

-- BeginsSelection remaining tests capture result: a selection of this capture by these tests begins, or can't.
abbrev pub BeginsSelection : {R : Type 0} → (R → Option (List ℕ)) → Tests → R → Result (Reading R) PcapError → Type 0
BeginsSelection remaining tests capture (Ok (readings.Selected selected)) = BeginsSelected remaining tests (remaining capture) selected
BeginsSelection remaining tests capture (Ok (readings.All all)) = ⊥
BeginsSelection remaining tests capture (Err e) = FailsToBegin remaining (remaining capture) e

-- BeginsReading remaining tests capture result: without tests, all of the capture is read.
abbrev pub BeginsReading : {R : Type 0} → (R → Option (List ℕ)) → Option Tests → R → Result (Reading R) PcapError → Type 0
BeginsReading remaining None capture result = result ≡ Ok (readings.All capture)
BeginsReading remaining (Some tests) capture result = BeginsSelection remaining tests capture result
