-- The length that the head of an item states.
use Rattle.std.proofs.Common.{◌≡◌, ℕ, ◌<◌, List, [], ◌++◌, length, drop, refl, sym, ap, subst, ◌∙◌, append-nil, arith, inl, inr, Bool, false, Option, Some, Result, Ok, Err}
use Rattle.std.proofs.lemmas.List.{drop_at, nil_from_length}
use Rattle.pcap_core.specs.declared.errors.PcapError.{PcapError}
use Rattle.pcap_core.specs.Answer.{whole, lacks, faulty}
use Rattle.pcap_core.specs.Faults.{Fault}
use Rattle.pcap_items.specs.Headed.{bad}
use Rattle.pcap_items.specs.Filling.{Stated, StatesRest, FillsHeaded, TakesStated, TakesHeaded}
use Rattle.pcap_items.specs.Reading.{Takes}
use Rattle.test_formats.specs.declared.samples.Head.{Head}
use Rattle.test_formats.specs.declared.samples.LogFault.{LogFault}
use Rattle.test_formats.specs.Samples.{head_length, fault_of, HeadReads, KnowsHead, KnowsTold, item_with, held_item, sample_format, TakesBadHead}

pub sample_head : (size : ℕ) → sample_format.head size ≡ head_length size
unfolding sample_format
sample_head size = refl

-- A head and as many bytes as it states are an item.
pub item_stands : (size : ℕ) (head : Head) (front body s : List ℕ) → KnowsHead size head (length body) front → length front ≡ head_length size → s ≡ front ++ body
    → sample_format.says size s (whole (record { head = head; bytes = body }) [])
unfolding sample_format
item_stands size head front body s knows long split =
    inr (inr (
      record { head = head; follows = length body },
      body,
      record { bytes = front; text = split; length_is = long; holds = knows },
      record { bytes = body; text = sym (append-nil body); length_is = refl; holds = (refl, refl) },
    ))

-- A head alone lacks the bytes that it states.
pub item_lacks : (size n : ℕ) (head : Head) (s : List ℕ) → KnowsHead size head n s → length s ≡ head_length size → 0 < n → sample_format.says size s (lacks n)
unfolding sample_format
item_lacks size n head s knows long some =
    inr (inr (record { head = head; follows = n }, [], record { bytes = s; text = sym (append-nil s); length_is = long; holds = knows }, (some, omega arith)))

pub head_refused : (size : ℕ) (s : List ℕ) (fault : Fault) → HeadReads size s (bad fault) → length s ≡ head_length size → sample_format.says size s (faulty fault)
unfolding sample_format
head_refused size s fault reads long = inr (inl ([], record { bytes = s; text = sym (append-nil s); length_is = long; holds = reads }))

-- What a known head states.
pub head_states : (size n : ℕ) (head : Head) (s : List ℕ) → length s ≡ head_length size → KnowsHead size head n s → StatesRest (sample_format.says size) (KnowsTold size) s (Ok (Ok head, n))
head_states size n head s long knows = (
  knows,
  λ none. inl (record { head = head; bytes = [] }, item_stands size head s [] s (subst (λ (k : ℕ). KnowsHead size head k s) none knows) long (sym (append-nil s))),
  λ some. item_lacks size n head s knows long some,
)

-- A bad head that is known states nothing.
pub bad_states : (size : ℕ) (fault : LogFault) (s : List ℕ) → length s ≡ head_length size → HeadReads size s (bad (fault_of fault)) → StatesRest (sample_format.says size) (KnowsTold size) s (Ok (Err fault, 0))
bad_states size fault s long reads = ((refl, reads), λ none. inr (fault_of fault, head_refused size s (fault_of fault) reads long), λ some. absurd (omega (arith, some)))

-- The item in the held bytes.
pub held_stands : (size : ℕ) (head : Head) (s : List ℕ) → Stated (KnowsTold size) (sample_format.head size) (Ok head) s → sample_format.says size s (whole (held_item size s head) [])
held_stands size head s t =
    let n = head_length size in
    let long : length t.front ≡ n = t.length_is ∙ sample_head size in
    let back : drop n s ≡ t.body = ap (drop n) t.split ∙ drop_at t.front t.body n long in
    subst (λ (l : List ℕ). sample_format.says size s (whole (record { head = head; bytes = l }) [])) (sym back) (item_stands size head t.front t.body s t.knows long t.split)

-- A bad head that is held is refused.
pub held_bad : (size : ℕ) (fault : LogFault) (s : List ℕ) → Stated (KnowsTold size) (sample_format.head size) (Err fault) s → (length s ≡ head_length size) × sample_format.says size s (faulty (fault_of fault))
held_bad size fault s t =
    let none : t.body ≡ [] = nil_from_length t.body t.knows.0 in
    let all : s ≡ t.front = t.split ∙ ap (λ (l : List ℕ). t.front ++ l) none ∙ append-nil t.front in
    let long : length t.front ≡ head_length size = t.length_is ∙ sample_head size in
    rw all (long, head_refused size t.front (fault_of fault) t.knows.1 long)

module _ (size : ℕ) (before after : Option (List ℕ)) (held : List ℕ) (failed : Bool) where
  pub item_held : (head : Head) (result : Result (Option (Result Head LogFault)) PcapError) → result ≡ Ok (Some (Ok head))
      → FillsHeaded (sample_format.says size) (KnowsTold size) (sample_format.head size) before after held failed result → (failed ≡ false) × Takes (sample_format.says size) before after (held_item size held head)
  item_held head result is fills = let x = rw is at fills in (x.0, (held, held_stands size head held x.1, x.4))

  pub bad_held : (fault : LogFault) (result : Result (Option (Result Head LogFault)) PcapError) → result ≡ Ok (Some (Err fault))
      → FillsHeaded (sample_format.says size) (KnowsTold size) (sample_format.head size) before after held failed result → (failed ≡ false) × TakesBadHead size before after fault
  bad_held fault result is fills = let x = rw is at fills in let bad = held_bad size fault held x.1 in (x.0, (held, bad.0, bad.1, x.4))

-- A head that was taken, and the bytes that it states, are an item.
pub item_taken : (size : ℕ) (head : Head) (body : List ℕ) (before after : Option (List ℕ)) → TakesStated (sample_format.says size) (KnowsTold size) (sample_format.head size) before after (Ok head) body
    → Takes (sample_format.says size) before after (record { head = head; bytes = body })
item_taken size head body before after x =
    let t = x.stated in
    let stands = item_stands size head t.front t.body x.bytes t.knows (t.length_is ∙ sample_head size) t.split in
    (x.bytes, subst (λ (l : List ℕ). sample_format.says size x.bytes (whole (record { head = head; bytes = l }) [])) x.body_is stands, x.took)

pub bad_taken : (size : ℕ) (fault : LogFault) (body : List ℕ) (before after : Option (List ℕ)) → TakesStated (sample_format.says size) (KnowsTold size) (sample_format.head size) before after (Err fault) body
    → TakesBadHead size before after fault
bad_taken size fault body before after x = let bad = held_bad size fault x.bytes x.stated in (x.bytes, bad.0, bad.1, x.took)

module _ {B : Type 0} (body_of : B → List ℕ) (size : ℕ) (before after : Option (List ℕ)) (failed : Bool) (bytes : B) where
  pub items_taken : (head : Head) (result : Result (Option (Result Head LogFault × B)) PcapError) → result ≡ Ok (Some (Ok head, bytes))
      → TakesHeaded (sample_format.says size) (KnowsTold size) (sample_format.head size) body_of before after failed result → (failed ≡ false) × Takes (sample_format.says size) before after (item_with head (body_of bytes))
  items_taken head result is takes = let x = rw is at takes in (x.0, item_taken size head (body_of bytes) before after x.1)

  pub bads_taken : (fault : LogFault) (result : Result (Option (Result Head LogFault × B)) PcapError) → result ≡ Ok (Some (Err fault, bytes))
      → TakesHeaded (sample_format.says size) (KnowsTold size) (sample_format.head size) body_of before after failed result → (failed ≡ false) × TakesBadHead size before after fault
  bads_taken fault result is takes = let x = rw is at takes in (x.0, bad_taken size fault (body_of bytes) before after x.1)
