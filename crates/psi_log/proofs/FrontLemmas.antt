-- What is read of a text is read of a longer one that it begins, with more text left after it.
use Rattle.std.specs.Prelude.{◌≡◌, ℕ, ◌-◌, ◌+◌, ◌<◌, ◌≤◌, ◌^◌, List, [], ◌++◌, length, take, drop, codes, nat_le, nat_lt, Bool, true, ◌==◌, Option, None, Some, Result, Ok, Err, cond, refl}
use Rattle.std.specs.List.{position, position_or_len}
use Rattle.std.proofs.Common.{ap, sym, ◌∙◌, subst, arith, append_assoc, length-append}
use Rattle.std.proofs.lemmas.Bool.{le-leb, lt-ltb}
use Rattle.std.proofs.lemmas.List.{get_or_append_left, take-append-le, drop-append-le, take-append-drop}
use Rattle.std.proofs.lemmas.List.Quantifiers.{position-Some}
use Rattle.std.proofs.lemmas.List.Sums.{position_or_len_is}
use Rattle.psi_state.specs.State.{Corners}
use Rattle.psi_log_format.specs.declared.header.Header.{Header}
use Rattle.psi_log_format.specs.Log.{Entry, greatest_horizon}
use Rattle.psi_log_words.specs.Refusal.{Refusal, ◌>>=◌}
use Rattle.psi_log_words.specs.Words.{is_feed, cut_at, line_of, tokens_of, read_version, read_named}
use Rattle.psi_log_words.proofs.WordLemmas.{bind_ok, ok_same}
use Rattle.psi_log_scan.specs.Lines.{read_line, named_line, read_header, read_step}
use Rattle.psi_log_scan.specs.Scanned.{next_step}
use Rattle.psi_log.specs.Reading.{read_begin, begin_line}
use Rattle.psi_log.specs.Cursor.{Cursor, EndsAs, begun}
use Rattle.psi_log.proofs.PassLemmas.{begun_parts}

-- a reading of a front of the text: what it leaves is the end of the text, and what it gives stays when more text follows
abbrev IsFront : {A : Type 0} → (List ℕ → Result (A × List ℕ) Refusal) → Type 0
IsFront {A = A} reading =
    (text : List ℕ) (x : A × List ℕ) → reading text ≡ Ok x → EndsAs text x.1 × ((more : List ℕ) → reading (text ++ more) ≡ Ok (x.0, x.1 ++ more))

pub ends_then : (text mid rest : List ℕ) → EndsAs text mid → EndsAs mid rest → EndsAs text rest
ends_then text mid rest one two = (one.0 ++ two.0, one.1 ∙ ap (λ (t : List ℕ). one.0 ++ t) two.1 ∙ sym (append_assoc one.0 two.0 rest))

-- such are nothing read, one after another, and one after what isn't read of the text
none_front : {A : Type 0} (a : A) → IsFront (λ (text : List ℕ). Ok (a, text))
none_front {A = A} a text x h = (([], ap (λ (p : A × List ℕ). p.1) (ok_same (a, text) x h)), λ more. ap (λ (p : A × List ℕ). Ok (p.0, p.1 ++ more)) (ok_same (a, text) x h))

then_front : {A B : Type 0} (first : List ℕ → Result (A × List ℕ) Refusal) (next : A → List ℕ → Result (B × List ℕ) Refusal)
    → IsFront first → ((a : A) → IsFront (next a)) → IsFront (λ (text : List ℕ). first text >>= (λ (p : A × List ℕ). next p.0 p.1))
then_front {A = A} first next one two text x h =
    let read = bind_ok (first text) (λ (p : A × List ℕ). next p.0 p.1) x h in
    let here = one text read.0 read.1 in
    let there = two read.0.0 read.0.1 x read.2 in
    (ends_then text read.0.1 x.1 here.0 there.0, λ more. rw (here.1 more) (there.1 more))

given_front : {A B : Type 0} (r : Result A Refusal) (next : A → List ℕ → Result (B × List ℕ) Refusal) → ((a : A) → IsFront (next a)) → IsFront (λ (text : List ℕ). r >>= (λ (a : A). next a text))
given_front (Ok a) next two = two a
given_front (Err refusal) next two = λ text x h. absurd cc

-- the first line feed stays the first
feed_front : (text more : List ℕ) (at : ℕ) → position is_feed text ≡ Some at → (position is_feed (text ++ more) ≡ Some at) × (at + 1 ≤ length text)
feed_front text more at is =
    let there = position-Some is_feed text at 0 is in
    let long : at < length (text ++ more) = omega (arith, length-append text more, there.0) in
    let place : position_or_len is_feed (text ++ more) ≡ at =
    position_or_len_is is_feed (text ++ more) at 0 (omega arith)
    (λ k less. ap (λ (b : ℕ). b == 10) (get_or_append_left text more 0 k (omega (arith, there.0))) ∙ there.2 k less)
    (λ less. ap (λ (b : ℕ). b == 10) (get_or_append_left text more 0 at there.0) ∙ there.1) in (
      ap (λ (k : ℕ). cond (nat_lt k (length (text ++ more))) (Some k) None) place
          ∙ ap (λ (b : Bool). cond b (Some at) None) (lt-ltb at (length (text ++ more)) long),
      omega (arith, there.0),
    )

-- a line
line_front : (n : ℕ) → IsFront (line_of n)
unfolding line_of
line_front n text x h = go (position is_feed text) refl h
  where
    go : (found : Option ℕ) → position is_feed text ≡ found → cut_at n text found ≡ Ok x → EndsAs text x.1 × ((more : List ℕ) → cut_at n (text ++ more) (position is_feed (text ++ more)) ≡ Ok (x.0, x.1 ++ more))
    go None is cut = absurd cc
    go (Some at) is cut =
        let same = ok_same (take at text, drop (at + 1) text) x cut in (
          (take (at + 1) text, sym (take-append-drop (at + 1) text) ∙ ap (λ (p : List ℕ × List ℕ). take (at + 1) text ++ p.1) same),
          λ more. (let feed = feed_front text more at is in
              rw (feed.0, take-append-le at text more (omega (arith, feed.1)), drop-append-le (at + 1) text more feed.1)
              (ap (λ (p : List ℕ × List ℕ). Ok (p.0, p.1 ++ more)) same)),
        )

-- what is read of a line: that of a name and a number, that of the region at which the run begins, and that of a step
line_read_front : {A : Type 0} (n : ℕ) (reading : List (List ℕ) → Result A Refusal) → IsFront (read_line n reading)
line_read_front {A = A} n reading =
    then_front (line_of n) (λ (line text : List ℕ). reading (tokens_of line) >>= (λ (a : A). Ok (a, text))) (line_front n)
    (λ line. given_front (reading (tokens_of line)) (λ (a : A) (text : List ℕ). Ok (a, text)) none_front)

named_front : (n : ℕ) (name : List ℕ) (least most : ℕ) → IsFront (named_line n name least most)
unfolding named_line
named_front n name least most = line_read_front n (read_named n name least most)

begin_front : (queues : ℕ) → IsFront (begin_line queues)
unfolding begin_line
begin_front queues = line_read_front 6 (read_begin queues)

step_front : (h : Header) (n : ℕ) (before : Option Corners) → IsFront (next_step h n before)
unfolding next_step
step_front h n before = line_read_front n (read_step h n before)

pub next_front : (h : Header) (n : ℕ) (before : Option Corners) (text rest more : List ℕ) (e : Entry) → next_step h n before text ≡ Ok (e, rest) → next_step h n before (text ++ more) ≡ Ok (e, rest ++ more)
next_front h n before text rest more e read = (step_front h n before text (e, rest) read).1 more

pub next_ends : (h : Header) (n : ℕ) (before : Option Corners) (text rest : List ℕ) (e : Entry) → next_step h n before text ≡ Ok (e, rest) → EndsAs text rest
next_ends h n before text rest e read = (step_front h n before text (e, rest) read).0

-- a header
header_front : IsFront read_header
unfolding read_header
header_front =
    then_front (line_of 1) (λ (line text : List ℕ). read_version line >>= (λ (v : ℕ). behind_version v text)) (line_front 1)
    (λ line. given_front (read_version line) behind_version version_front)
  where
    behind_version : ℕ → List ℕ → Result (Header × List ℕ) Refusal
    behind_version v text = named_line 2 (codes "queues") 1 32 text >>= (λ (q : ℕ × List ℕ). named_line 3 (codes "seed") 0 (2 ^ 64 - 1) q.1 >>= (λ (s : ℕ × List ℕ).
        named_line 4 (codes "stream") 0 (2 ^ 64 - 1) s.1 >>= (λ (n : ℕ × List ℕ). named_line 5 (codes "horizon") 1 (greatest_horizon v) n.1 >>= (λ (k : ℕ × List ℕ).
        Ok (record { version = v; queues = q.0; seed = s.0; stream = n.0; horizon = k.0 }, k.1)))))

    version_front : (v : ℕ) → IsFront (behind_version v)
    version_front v =
        then_front _ _ (named_front 2 (codes "queues") 1 32) (λ q. then_front _ _ (named_front 3 (codes "seed") 0 (2 ^ 64 - 1)) (λ s. then_front _ _ (named_front 4 (codes "stream") 0 (2 ^ 64 - 1)) (λ n.
        then_front _ _ (named_front 5 (codes "horizon") 1 (greatest_horizon v)) (λ k. none_front (record { version = v; queues = q; seed = s; stream = n; horizon = k })))))

-- what stands before the steps, where the longer text isn't too long
begins : (text : List ℕ) (c : Cursor) → begun text ≡ Ok c → EndsAs text c.rest
    × ((more : List ℕ) → length (text ++ more) ≤ 33554432 → begun (text ++ more) ≡ Ok (record { header = c.header; done = c.done; before = c.before; region = c.region; rest = c.rest ++ more }))
unfolding begun
begins text c h =
    let parts = begun_parts text c h in
    let first = header_front text parts.0 parts.2 in
    let second = begin_front parts.0.0.queues parts.0.1 parts.1 parts.3 in (
      subst (λ (k : Cursor). EndsAs text k.rest) parts.4 (ends_then text parts.0.1 parts.1.1 first.0 second.0),
      λ more few. (let fits : nat_le (length (text ++ more)) 33554432 ≡ true = le-leb (length (text ++ more)) 33554432 few in
          rw (fits, first.1 more, second.1 more)
          (ap (λ (k : Cursor). Ok (record { header = k.header; done = k.done; before = k.before; region = k.region; rest = k.rest ++ more })) parts.4)),
    )

pub begun_front : (text more : List ℕ) (c : Cursor) → begun text ≡ Ok c → length (text ++ more) ≤ 33554432
    → begun (text ++ more) ≡ Ok (record { header = c.header; done = c.done; before = c.before; region = c.region; rest = c.rest ++ more })
begun_front text more c h few = (begins text c h).1 more few

pub begun_ends : (text : List ℕ) (c : Cursor) → begun text ≡ Ok c → EndsAs text c.rest
begun_ends text c h = (begins text c h).0
