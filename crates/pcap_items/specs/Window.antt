-- The bytes of a window, how many of them it has shown, and the requests to it.
use Rattle.std.specs.Prelude.{ℕ, List}
use Rattle.pcap_items.specs.declared.run.window.Window.{Window}
use Rattle.pcap_items.specs.Requests.{all_requests}

-- bytes_of gives all bytes of a window, shown or not.
abbrev pub bytes_of : Window → List ℕ
bytes_of window = window.bytes.now

-- shown_of gives the number of bytes that were shown.
abbrev pub shown_of : Window → ℕ
shown_of window = window.shown

-- requests_made gives the number of bytes of each request, in order.
abbrev pub requests_made : Window → List ℕ
requests_made window = all_requests window.requests
