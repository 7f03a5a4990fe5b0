-- The kinds of errors, and the text that each error shows.
use Rattle.std.specs.Prelude.{List, ℕ, ◌++◌, codes}
use Rattle.std.specs.Fmt.{decimal}
use Rattle.pcap_core.specs.declared.errors.PcapError.{PcapError}
use Rattle.pcap_core.specs.declared.errors.PcapError.TheVariants.{IncompleteBuffer, IoError, InvalidField, Utf8Error, FromUtf8Error, OutOfMemory, WriterFailed}

-- IsMemory error: the error is out of memory.
abbrev pub IsMemory : PcapError → Type 0
IsMemory (OutOfMemory e) = Unit {0}
IsMemory _ = ⊥

-- IsIo error: a read or write failed, or a stream ended early.
abbrev pub IsIo : PcapError → Type 0
IsIo (IoError e) = Unit {0}
IsIo _ = ⊥

-- error_message gives the text that an error shows.
abbrev pub error_message : PcapError → List ℕ
error_message (IncompleteBuffer n) = codes "Need at least " ++ (decimal n ++ codes " more bytes")
error_message (IoError e) = codes "Error reading bytes"
error_message (InvalidField message) = codes "Invalid field value: " ++ message.now
error_message (Utf8Error e) = codes "UTF8 error"
error_message (FromUtf8Error e) = codes "UTF8 error"
error_message (OutOfMemory e) = codes "Out of memory"
error_message WriterFailed = codes "Writer failed earlier"
