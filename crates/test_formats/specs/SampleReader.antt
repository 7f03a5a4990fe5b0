-- The state of a reader of samples.
use Rattle.std.specs.Prelude.{ℕ, List, Bool, drop}
use Rattle.pcap_items.specs.Fill as fill
use Rattle.test_formats.specs.declared.samples.SampleReader.{SampleReader}

-- The stream behind a reader.
abbrev pub stream_of : {T : Type 0} → SampleReader T → T
stream_of reader = fill.stream_of reader.fill

-- Whether a read of the stream failed.
abbrev pub has_failed : {T : Type 0} → SampleReader T → Bool
has_failed reader = fill.has_failed reader.fill

-- Whether the reader has refused something.
abbrev pub is_done : {T : Type 0} → SampleReader T → Bool
is_done reader = reader.is_done

-- The size of the samples that follow.
abbrev pub size_of : {T : Type 0} → SampleReader T → ℕ
size_of reader = reader.size

-- The bytes that the reader holds, of the item that came last.
abbrev pub bytes_held : {T : Type 0} → SampleReader T → List ℕ
bytes_held reader = fill.held_of reader.fill

-- The held bytes after the head.
abbrev pub bytes_of : {T : Type 0} → SampleReader T → List ℕ
bytes_of reader = drop reader.start (bytes_held reader)
