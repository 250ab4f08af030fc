-- Texts that go to a sink one after another.
use Rattle.std.proofs.Common.{◌≡◌, ℕ, ◌+◌, ◌-◌, ◌≤◌, List, [], ◌++◌, length, take, drop, Option, Some, Result, Ok, Err, IsOk, IsErr, OnOk, OnErr, refl, sym, ◌∙◌, ap, subst, append_assoc, append-nil, length-append, arith}
use Rattle.std.proofs.lemmas.List.{take-append-drop, take_rest}
use Rattle.psi_io.specs.declared.sink.SinkFault.{SinkFault}
use Rattle.psi_io.specs.Counts.{Rose}
use Rattle.psi_io.specs.Sink.{appended, GrewByPrefix, TookPrefix}
use Rattle.psi_io.proofs.CountsLemmas.{rose-over}
use Rattle.psi_io.proofs.SinkLemmas.{appended-nothing, appended-twice, grew-longer, grew-after}
use Rattle.psi_log_writer.specs.Sending.{SinkState, IsSent, IsStopped, Sends}

-- a text is what was taken of it and what waits
length-sent : (a b : SinkState) (waiting text : List ℕ) (s : IsSent a b waiting text) → length text ≡ length s.front + length waiting
length-sent a b waiting text s = sym (ap (λ (xs : List ℕ). length xs) s.whole) ∙ length-append s.front waiting

-- a text all of which waits
pub sent-nothing : (s : SinkState) (waiting text : List ℕ) → waiting ≡ text → IsSent s s waiting text
sent-nothing s waiting text same =
    let count : length waiting ≡ length text = ap (λ (xs : List ℕ). length xs) same in
    record {
      front = [];
      whole = same;
      grew = sym (appended-nothing s.held);
      took = sym (append-nil s.took);
      counts = omega arith;
      spared = λ n takes long. refl;
      takes_on = λ n takes. (let e : n ≡ n - (length text - length waiting) = omega arith in subst s.takes e takes);
    }

-- no text yet
pub sent-none : (s : SinkState) (block held text : List ℕ) → block ≡ [] → held ≡ [] → text ≡ [] → IsSent s s (block ++ held) text
sent-none s block held text first second is = sent-nothing s (block ++ held) text (ap (λ (xs : List ℕ). xs ++ held) first ∙ (second ∙ sym is))

-- more of the text that waits too
pub sent-waits : (a b : SinkState) (waiting text more : List ℕ) → IsSent a b waiting text → IsSent a b (waiting ++ more) (text ++ more)
sent-waits a b waiting text more s =
    let count : length (text ++ more) ≡ length text + length more = length-append text more in
    let left : length (waiting ++ more) ≡ length waiting + length more = length-append waiting more in
    record {
      front = s.front;
      whole = sym (append_assoc s.front waiting more) ∙ ap (λ (xs : List ℕ). xs ++ more) s.whole;
      grew = s.grew;
      took = s.took;
      counts = s.counts;
      spared = λ n takes long. s.spared n takes (omega arith);
      takes_on = λ n takes.
          (let e : n - (length text - length waiting) ≡ n - (length (text ++ more) - length (waiting ++ more)) = omega arith in
          subst b.takes e (s.takes_on n takes));
    }

-- what waits of a text goes on with a piece after it
pub sent-more : (a b c : SinkState) (waiting still text piece : List ℕ) → IsSent a b waiting text → IsSent b c still (waiting ++ piece) → IsSent a c still (text ++ piece)
sent-more a b c waiting still text piece s r =
    let count : length (text ++ piece) ≡ length text + length piece = length-append text piece in
    let next : length (waiting ++ piece) ≡ length waiting + length piece = length-append waiting piece in
    let first : length text ≡ length s.front + length waiting = length-sent a b waiting text s in
    let second : length (waiting ++ piece) ≡ length r.front + length still = length-sent b c still (waiting ++ piece) r in
    let least = s.counts in
    let most = r.counts in
    record {
      front = s.front ++ r.front;
      whole = append_assoc s.front r.front still ∙ (ap (λ (xs : List ℕ). s.front ++ xs) r.whole
          ∙ (sym (append_assoc s.front waiting piece) ∙ ap (λ (xs : List ℕ). xs ++ piece) s.whole));
      grew = r.grew ∙ (ap (λ (held : Option (List ℕ)). appended held r.front) s.grew ∙ appended-twice a.held s.front r.front);
      took = r.took ∙ (ap (λ (took : List ℕ). took ++ r.front) s.took ∙ append_assoc a.took s.front r.front);
      counts = omega arith;
      spared = λ n takes long. r.spared (n - (length text - length waiting)) (s.takes_on n takes) (omega arith) ∙ s.spared n takes (omega arith);
      takes_on = λ n takes.
          (let e : n - (length text - length waiting) - (length (waiting ++ piece) - length still) ≡ n - (length (text ++ piece) - length still) = omega arith in
          subst c.takes e (r.takes_on (n - (length text - length waiting)) (s.takes_on n takes)));
    }

-- or the sink fails in it
pub stopped-more : (a b c : SinkState) (waiting text piece : List ℕ) → IsSent a b waiting text → IsStopped b c (waiting ++ piece) → IsStopped a c (text ++ piece)
stopped-more a b c waiting text piece s r =
    let count : length (text ++ piece) ≡ length text + length piece = length-append text piece in
    let next : length (waiting ++ piece) ≡ length waiting + length piece = length-append waiting piece in
    let first : length text ≡ length s.front + length waiting = length-sent a b waiting text s in
    let least = s.counts in
    let most = r.counts in
    let whole : s.front ++ (waiting ++ piece) ≡ text ++ piece = sym (append_assoc s.front waiting piece) ∙ ap (λ (xs : List ℕ). xs ++ piece) s.whole in
    record {
      prefix = subst (λ (xs : List ℕ). GrewByPrefix a.held c.held xs) whole (grew-after a.held b.held c.held s.front (waiting ++ piece) s.grew r.prefix);
      took = subst (λ (xs : List ℕ). TookPrefix a.took c.took xs) whole (grew-after (Some a.took) (Some b.took) (Some c.took) s.front (waiting ++ piece) (ap Some s.took) r.took);
      failed = rose-over a.faults b.faults c.faults c.faults s.counts r.failed (omega arith);
      counts = omega arith;
      never = λ n takes long. r.never (n - (length text - length waiting)) (s.takes_on n takes) (omega arith);
    }

-- a sink that failed in a text failed in each longer one
pub stopped-longer : (a b : SinkState) (text more : List ℕ) → IsStopped a b text → IsStopped a b (text ++ more)
stopped-longer a b text more s =
    let count : length (text ++ more) ≡ length text + length more = length-append text more in
    record {
      prefix = grew-longer a.held b.held text more s.prefix;
      took = grew-longer (Some a.took) (Some b.took) text more s.took;
      failed = s.failed;
      counts = s.counts;
      never = λ n takes long. s.never n takes (omega arith);
    }

-- an answer that tells of a fault
pub sends-stopped : (r : Result (Unit {0}) SinkFault) (a b : SinkState) (waiting text : List ℕ) → IsErr r → IsStopped a b text → Sends r a b waiting text
sends-stopped (Ok done) a b waiting text err s = absurd (cc)
sends-stopped (Err fault) a b waiting text err s = s

-- what follows a front of a text
abbrev pub rest_of : List ℕ → ℕ → List ℕ
rest_of text n = take (length text - n) (drop n text)

-- a text is its front with the rest after it, wherever it is cut
cut-text : (text : List ℕ) (n : ℕ) → take n text ++ rest_of text n ≡ text
cut-text text n = ap (λ (xs : List ℕ). take n text ++ xs) (take_rest text n) ∙ take-append-drop n text

cut-behind : (old text : List ℕ) (n : ℕ) → (old ++ take n text) ++ rest_of text n ≡ old ++ text
cut-behind old text n = append_assoc old (take n text) (rest_of text n) ∙ ap (λ (xs : List ℕ). old ++ xs) (cut-text text n)

cut-twice : (old text : List ℕ) (n m : ℕ) → ((old ++ take n text) ++ take m (rest_of text n)) ++ rest_of (rest_of text n) m ≡ old ++ text
cut-twice old text n m = cut-behind (old ++ take n text) (rest_of text n) m ∙ cut-behind old text n

-- a text is put after what waits: the block is filled with its front and written, then the whole blocks of the rest are written, and what is left waits
pub stopped-first : (a b : SinkState) (old text full : List ℕ) (n : ℕ) → full ≡ old ++ take n text → IsStopped a b full → IsStopped a b (old ++ text)
stopped-first a b old text full n is s =
    subst (λ (xs : List ℕ). IsStopped a b xs) (cut-behind old text n)
    (stopped-longer a b (old ++ take n text) (rest_of text n) (subst (λ (xs : List ℕ). IsStopped a b xs) is s))

pub stopped-second : (a b c : SinkState) (old text full : List ℕ) (n m : ℕ) → full ≡ old ++ take n text → IsSent a b [] full → IsStopped b c (take m (rest_of text n))
    → IsStopped a c (old ++ text)
stopped-second a b c old text full n m is s r =
    let piece = take m (rest_of text n) in
    subst (λ (xs : List ℕ). IsStopped a c xs) (cut-twice old text n m)
    (stopped-longer a c ((old ++ take n text) ++ piece) (rest_of (rest_of text n) m)
    (stopped-more a b c [] (old ++ take n text) piece (subst (λ (xs : List ℕ). IsSent a b [] xs) is s) r))

pub sent-both : (a b c : SinkState) (old text full last : List ℕ) (n m : ℕ) → full ≡ old ++ take n text → last ≡ rest_of (rest_of text n) m → IsSent a b [] full
    → IsSent b c [] (take m (rest_of text n)) → IsSent a c last (old ++ text)
sent-both a b c old text full last n m is left s r =
    let piece = take m (rest_of text n) in
    let front : IsSent a c [] ((old ++ take n text) ++ piece) = sent-more a b c [] [] (old ++ take n text) piece (subst (λ (xs : List ℕ). IsSent a b [] xs) is s) r in
    subst (λ (xs : List ℕ). IsSent a c xs (old ++ text)) (sym left)
    (subst (λ (xs : List ℕ). IsSent a c (rest_of (rest_of text n) m) xs) (cut-twice old text n m)
    (sent-waits a c [] ((old ++ take n text) ++ piece) (rest_of (rest_of text n) m) front))

-- what waits of a text goes on by itself
pub sent-on : (a b c : SinkState) (waiting still text : List ℕ) → IsSent a b waiting text → IsSent b c still waiting → IsSent a c still text
sent-on a b c waiting still text s r =
    subst (λ (xs : List ℕ). IsSent a c still xs) (append-nil text)
    (sent-more a b c waiting still text [] s (subst (λ (xs : List ℕ). IsSent b c still xs) (sym (append-nil waiting)) r))

pub stopped-on : (a b c : SinkState) (waiting text rest whole : List ℕ) → text ++ rest ≡ whole → IsSent a b waiting text → IsStopped b c waiting → IsStopped a c whole
stopped-on a b c waiting text rest whole ends s r =
    let there : IsStopped a c text = subst (λ (xs : List ℕ). IsStopped a c xs) (append-nil text)
    (stopped-more a b c waiting text [] s (subst (λ (xs : List ℕ). IsStopped b c xs) (sym (append-nil waiting)) r)) in
    subst (λ (xs : List ℕ). IsStopped a c xs) ends (stopped-longer a c text rest there)

-- lines that are held go to the block
pub sent-passed : (a b : SinkState) (block held bytes after left : List ℕ) → bytes ≡ held → left ≡ [] → IsSent a b after (block ++ bytes) → IsSent a b (after ++ left) (block ++ held)
sent-passed a b block held bytes after left is none s =
    subst (λ (xs : List ℕ). IsSent a b xs (block ++ held)) (sym (ap (λ (xs : List ℕ). after ++ xs) none ∙ append-nil after))
    (subst (λ (xs : List ℕ). IsSent a b after (block ++ xs)) is s)

pub sent-put : (a b : SinkState) (block held bytes after : List ℕ) → bytes ≡ held → IsSent a b after (block ++ bytes) → IsSent a b after (block ++ held)
sent-put a b block held bytes after is s = subst (λ (xs : List ℕ). IsSent a b after (block ++ xs)) is s

pub stopped-passed : (a b : SinkState) (block held bytes : List ℕ) → bytes ≡ held → IsStopped a b (block ++ bytes) → IsStopped a b (block ++ held)
stopped-passed a b block held bytes is s = subst (λ (xs : List ℕ). IsStopped a b (block ++ xs)) is s

-- a line is held after what waits
pub sent-next : (a b : SinkState) (block held line after text next : List ℕ) → after ≡ held ++ line → next ≡ text ++ line → IsSent a b (block ++ held) text
    → IsSent a b (block ++ after) next
sent-next a b block held line after text next more is s =
    subst (λ (ws : List ℕ). IsSent a b ws next) (append_assoc block held line ∙ ap (λ (xs : List ℕ). block ++ xs) (sym more))
    (subst (λ (xs : List ℕ). IsSent a b ((block ++ held) ++ line) xs) (sym is) (sent-waits a b (block ++ held) text line s))

-- what waits is written at the end
pub sends-last : (r : Result (Unit {0}) SinkFault) (a b c : SinkState) (waiting text : List ℕ) → IsSent a b waiting text → Sends r b c [] waiting → Sends r a c [] text
sends-last (Ok done) a b c waiting text s r = sent-on a b c waiting [] text s r
sends-last (Err fault) a b c waiting text s r = stopped-on a b c waiting text [] text (append-nil text) s r

-- what an answer says where nothing waits
pub sends-whole : (r : Result (Unit {0}) SinkFault) (a b : SinkState) (text : List ℕ) → Sends r a b [] text → OnOk r (b.held ≡ appended a.held text)
sends-whole (Ok done) a b text s = s.grew ∙ ap (λ (xs : List ℕ). appended a.held xs) (sym (append-nil s.front) ∙ s.whole)
sends-whole (Err fault) a b text s = tt

pub sends-prefix : (r : Result (Unit {0}) SinkFault) (a b : SinkState) (text : List ℕ) → Sends r a b [] text → OnErr r (GrewByPrefix a.held b.held text)
sends-prefix (Ok done) a b text s = tt
sends-prefix (Err fault) a b text s = s.prefix

pub sends-took : (r : Result (Unit {0}) SinkFault) (a b : SinkState) (text : List ℕ) → Sends r a b [] text → OnOk r (b.took ≡ a.took ++ text)
sends-took (Ok done) a b text s = s.took ∙ ap (λ (xs : List ℕ). a.took ++ xs) (sym (append-nil s.front) ∙ s.whole)
sends-took (Err fault) a b text s = tt

pub sends-took_part : (r : Result (Unit {0}) SinkFault) (a b : SinkState) (text : List ℕ) → Sends r a b [] text → OnErr r (TookPrefix a.took b.took text)
sends-took_part (Ok done) a b text s = tt
sends-took_part (Err fault) a b text s = s.took

pub sends-failed : (r : Result (Unit {0}) SinkFault) (a b : SinkState) (text : List ℕ) → Sends r a b [] text → OnErr r (Rose a.faults b.faults)
sends-failed (Ok done) a b text s = tt
sends-failed (Err fault) a b text s = s.failed

pub sends-counts : (r : Result (Unit {0}) SinkFault) (a b : SinkState) (text : List ℕ) → Sends r a b [] text → a.faults ≤ b.faults
sends-counts (Ok done) a b text s = s.counts
sends-counts (Err fault) a b text s = s.counts

pub sends-taken : (r : Result (Unit {0}) SinkFault) (a b : SinkState) (text : List ℕ) → Sends r a b [] text → (n : ℕ) → a.takes n → length text ≤ n → IsOk r
sends-taken (Ok done) a b text s n takes long = refl
sends-taken (Err fault) a b text s n takes long = absurd (s.never n takes long)

pub sends-spared : (r : Result (Unit {0}) SinkFault) (a b : SinkState) (text : List ℕ) → Sends r a b [] text → (n : ℕ) → a.takes n → length text ≤ n → b.faults ≡ a.faults
sends-spared (Ok done) a b text s n takes long = s.spared n takes long
sends-spared (Err fault) a b text s n takes long = absurd (s.never n takes long)

pub sends-takes_on : (r : Result (Unit {0}) SinkFault) (a b : SinkState) (text : List ℕ) → Sends r a b [] text → (n : ℕ) → a.takes n → OnOk r (b.takes (n - length text))
sends-takes_on (Ok done) a b text s n takes = (let e : n - (length text - 0) ≡ n - length text = omega arith in subst b.takes e (s.takes_on n takes))
sends-takes_on (Err fault) a b text s n takes = tt
