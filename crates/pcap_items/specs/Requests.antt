-- The requests to a window, as contracts see them.
use Rattle.std.specs.Prelude.{ℕ, List, [], ◌∷◌, ◌++◌}
use Rattle.pcap_items.specs.declared.run.requests.Request.{Request, Nothing, After'}
use Rattle.pcap_items.specs.declared.run.requests.Requests.{Requests}

-- requests_up_to gives the requests up to this one, in order.
abbrev pub requests_up_to : Request → List ℕ
requests_up_to Nothing = []
requests_up_to (After' marker before n) = requests_up_to before ++ n ∷ []

-- all_requests gives all requests so far, in order.
abbrev pub all_requests : Requests → List ℕ
all_requests requests = requests_up_to requests.last.value
