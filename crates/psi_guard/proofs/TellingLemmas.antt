-- Lemmas. What the loops over the queues know that ask for pieces and make them.
use Rattle.std.specs.Prelude.{◌≡◌, ◌≢◌, ℕ, ◌+◌, ◌<◌, List, length, replicate, slice_index, slice_set, Bool, true, false, refl}
use Rattle.std.proofs.Common.{inl, inr, ap, sym, ◌∙◌, subst, arith, below_more, length-set, get_or-set_same, get_or-set_other, rules}
use Rattle.std.proofs.lemmas.Bool.{cases_eq, both_ways}
use Rattle.std.proofs.lemmas.List.{length-replicate}
use Rattle.psi_event.specs.declared.piecewise.Piece.{Piece}
use Rattle.psi_event.specs.declared.piecewise.Piecewise.{Piecewise}
use Rattle.psi_event.specs.Piecewise.{empty_piece}
use Rattle.psi_guard.specs.declared.parts.Part.{Part}
use Rattle.psi_guard.specs.declared.pieces.PieceAt.{PieceAt}
use Rattle.psi_guard.specs.declared.pieces.PiecesAt.{PiecesAt}
use Rattle.psi_guard.specs.Guarding.{part_of}
use Rattle.psi_guard.specs.Pieces.{is_exact, is_clipped, pieces_at, piece_with, IsLong, SaysOf, exact, clipped, own_pieces, AreTold, Tell}

-- ---- whether pieces can tell the parts

module _ (caps : List ℕ) (parts : List Part) where
  -- the first n queues can be told, and one of them is clipped exactly where it is said so
  pub record IsTelling (n : ℕ) (is_one_clipped : Bool) : Type 0 where
    pub told : AreTold caps parts n
    pub none : is_one_clipped ≡ false → (q : ℕ) → q < n → exact caps parts q ≡ true
    pub one : is_one_clipped ≡ true → (q : ℕ) × (q < n) × (exact caps parts q ≡ false)

  pub telling-start : IsTelling 0 false
  telling-start = search rules

  pub exact-by : (n cap : ℕ) (part : Part) (b : Bool) → cap ≡ slice_index caps n → part ≡ part_of caps parts n → is_exact cap part ≡ b → exact caps parts n ≡ b
  exact-by n cap part b is_cap is_part is = sym (ap (λ c. is_exact c part) is_cap ∙ ap (λ p. is_exact (slice_index caps n) p) is_part) ∙ is

  pub clipped-by : (n cap : ℕ) (part : Part) (b : Bool) → cap ≡ slice_index caps n → part ≡ part_of caps parts n → is_clipped cap part ≡ b → clipped caps parts n ≡ b
  clipped-by n cap part b is_cap is_part is = sym (ap (λ c. is_clipped c part) is_cap ∙ ap (λ p. is_clipped (slice_index caps n) p) is_part) ∙ is

  pub telling-exact : (n : ℕ) (b : Bool) → IsTelling n b → exact caps parts n ≡ true → IsTelling (n + 1) b
  telling-exact n b before is = record {
    told = record {
      each = below_more _ _ before.told.each (inl is);
      alone = λ q r small_q small_r not_q not_r. elim (cases_eq q n) [
        | inl same ↦ absurd (both_ways _ (sym (ap (λ k. exact caps parts k) same) ∙ not_q) is)
        | inr other_q ↦ elim (cases_eq r n) [
          | inl same ↦ absurd (both_ways _ (sym (ap (λ k. exact caps parts k) same) ∙ not_r) is)
          | inr other_r ↦ before.told.alone q r (omega arith) (omega arith) not_q not_r
        ]
      ];
    };
    none = λ free. below_more _ _ (before.none free) is;
    one = λ some. (let found = before.one some in let small : found.0 < n = found.1 in (found.0, omega arith, found.2));
  }

  pub telling-clipped : (n : ℕ) → IsTelling n false → exact caps parts n ≡ false → clipped caps parts n ≡ true → IsTelling (n + 1) true
  telling-clipped n before is clip = record {
    told = record {
      each = below_more _ _ before.told.each (inr clip);
      alone = λ q r small_q small_r not_q not_r. here q small_q not_q ∙ sym (here r small_r not_r);
    };
    none = λ free. absurd cc;
    one = λ some. (n, omega arith, is);
  }
    where
      here : (q : ℕ) → q < n + 1 → exact caps parts q ≡ false → q ≡ n
      here q small out = elim (cases_eq q n) [
        | inl same ↦ same
        | inr other ↦ absurd (both_ways _ out (before.none refl q (omega arith)))
      ]

-- ---- the pieces

long-empty : (n m : ℕ) (p : Piece) → p ≡ empty_piece m → m ≡ n → IsLong n p
long-empty n m p is same = search (rules, length-replicate)

pub tell-start : (caps : List ℕ) (parts : List Part) (m : ℕ) (bounds : List ℕ) (first second : Piece) → bounds ≡ replicate m 0 → first ≡ empty_piece m → second ≡ empty_piece m → m ≡ length caps
    → Tell caps parts 0 (record { bounds = bounds; first = first; second = second })
tell-start caps parts m bounds first second is is_first is_second same = search (rules, length-replicate, long-empty)

long-with : (n : ℕ) (p : Piece) (q : ℕ) (own : PieceAt) → IsLong n p → IsLong n (piece_with p q own)
long-with n p q own long = search (rules, length-set)

says-same : (n : ℕ) (p : Piece) (q : ℕ) (own : PieceAt) → IsLong n p → q < n → SaysOf (piece_with p q own) q own
says-same n p q own long small = search (rules, get_or-set_same)

says-other : (p : Piece) (q k : ℕ) (own other : PieceAt) → k ≢ q → SaysOf p k other → SaysOf (piece_with p q own) k other
says-other p q k own other apart says = search (rules, get_or-set_other)

tell-step : (caps : List ℕ) (parts : List Part) (n : ℕ) (p : Piecewise) (own : PiecesAt) → Tell caps parts n p → n < length caps → own ≡ own_pieces caps parts n
    → Tell caps parts (n + 1) (record { bounds = slice_set p.bounds n own.bound; first = piece_with p.first n own.first; second = piece_with p.second n own.second })
tell-step caps parts n p own before small is = record {
  bounds = length-set {A = ℕ} p.bounds n own.bound ∙ before.bounds;
  first = long-with (length caps) p.first n own.first before.first;
  second = long-with (length caps) p.second n own.second before.second;
  bound_of = below_more _ _
      (λ q less. get_or-set_other {A = ℕ} p.bounds n q own.bound 0 (omega arith) ∙ before.bound_of q less)
      (get_or-set_same {A = ℕ} p.bounds n own.bound 0 (let long = before.bounds in omega arith) ∙ ap (λ (s : PiecesAt). s.bound) is);
  first_of = below_more _ _
      (λ q less. says-other p.first n q own.first (own_pieces caps parts q).first (omega arith) (before.first_of q less))
      (subst (λ (s : PiecesAt). SaysOf (piece_with p.first n own.first) n s.first) is (says-same (length caps) p.first n own.first before.first small));
  second_of = below_more _ _
      (λ q less. says-other p.second n q own.second (own_pieces caps parts q).second (omega arith) (before.second_of q less))
      (subst (λ (s : PiecesAt). SaysOf (piece_with p.second n own.second) n s.second) is (says-same (length caps) p.second n own.second before.second small));
}

pub tell-next : (caps : List ℕ) (parts : List Part) (n : ℕ) (p : Piecewise) (cap : ℕ) (part : Part) (own : PiecesAt) (bounds : List ℕ) (first second : Piece)
    → Tell caps parts n p → n < length caps → cap ≡ slice_index caps n → part ≡ part_of caps parts n → own ≡ pieces_at cap part
    → bounds ≡ slice_set p.bounds n own.bound → first ≡ piece_with p.first n own.first → second ≡ piece_with p.second n own.second
    → Tell caps parts (n + 1) (record { bounds = bounds; first = first; second = second })
tell-next caps parts n p cap part own bounds first second before small is_cap is_part is is_bounds is_first is_second =
    rw (is_bounds, is_first, is_second)
    (tell-step caps parts n p own before small (is ∙ ap (λ c. pieces_at c part) is_cap ∙ ap (λ t. pieces_at (slice_index caps n) t) is_part))
