-- Contents of files that agree with the answers of a shelf, in one read and in one call after another.
use Rattle.std.specs.Prelude.{◌≡◌, ℕ, ◌+◌, List, [], ◌∷◌, ◌++◌, Option, Some, None, IfSome, take}
use Rattle.std.specs.List.{AllByRecursion}
use Rattle.std.proofs.Common.{sym, ap, ◌∙◌, subst, append_assoc, append-nil}
use Rattle.std.proofs.lemmas.List.{append_cancel_left}
use Rattle.psi_io.specs.Shelf.{Given, IsPrefixIn, AgreesSince}

-- a consumer that took a prefix of a file was handed that prefix
pub delivered_prefix : (content : Option (List ℕ)) (had has bytes : List ℕ) (most : ℕ) → has ≡ had ++ bytes
    → IfSome content (λ whole. has ≡ had ++ take (most + 1) whole) → IfSome content (λ whole. bytes ≡ take (most + 1) whole)
delivered_prefix None had has bytes most taken prefix = tt
delivered_prefix (Some whole) had has bytes most taken prefix = append_cancel_left had bytes (take (most + 1) whole) (sym taken ∙ prefix)

module _ (told : List ℕ → Option (List ℕ)) where
  -- a call in which no read succeeded
  pub agrees_unmoved : (gave : List Given) → AgreesSince told gave gave
  agrees_unmoved gave = record { given = []; since = sym (append-nil gave); prefixes = tt }

  -- a call in which one read succeeded
  pub agrees_one : (before after : List Given) (one : Given) → after ≡ before ++ one ∷ [] → IsPrefixIn told one → AgreesSince told before after
  agrees_one before after one is prefix = record { given = one ∷ []; since = is; prefixes = (prefix, tt) }

  pub one_agrees : (before after : List Given) (one : Given) → after ≡ before ++ one ∷ [] → AgreesSince told before after → IsPrefixIn told one
  one_agrees before after one is agrees =
      let same : agrees.given ≡ one ∷ [] = append_cancel_left before agrees.given (one ∷ []) (sym agrees.since ∙ is) in
      let all : AllByRecursion (IsPrefixIn told) (one ∷ []) = subst (λ (given : List Given). AllByRecursion (IsPrefixIn told) given) same agrees.prefixes in
      all.0

  all-append : (first second : List Given) → AllByRecursion (IsPrefixIn told) first → AllByRecursion (IsPrefixIn told) second → AllByRecursion (IsPrefixIn told) (first ++ second)
  all-append [] second none rest = rest
  all-append (one ∷ first) second all rest = (all.0, all-append first second all.1 rest)

  all-split : (first second : List Given) → AllByRecursion (IsPrefixIn told) (first ++ second) → AllByRecursion (IsPrefixIn told) first × AllByRecursion (IsPrefixIn told) second
  all-split [] second all = (tt, all)
  all-split (one ∷ first) second all = (let rest = all-split first second all.1 in ((all.0, rest.0), rest.1))

  module _ (before between after : List Given) where
    -- one call after another
    pub agrees_both : AgreesSince told before between → AgreesSince told between after → AgreesSince told before after
    agrees_both first second = record {
      given = first.given ++ second.given;
      since = second.since ∙ ap (λ (gave : List Given). gave ++ second.given) first.since ∙ append_assoc before first.given second.given;
      prefixes = all-append first.given second.given first.prefixes second.prefixes;
    }

    -- what agrees with both calls agrees with each, where each added answers
    module _ (early late : List ℕ → Option (List ℕ)) (first : AgreesSince early before between) (second : AgreesSince late between after) (whole : AgreesSince told before after) where
      split : AllByRecursion (IsPrefixIn told) first.given × AllByRecursion (IsPrefixIn told) second.given
      split =
          let same : whole.given ≡ first.given ++ second.given =
          append_cancel_left before whole.given (first.given ++ second.given)
          (sym whole.since ∙ second.since ∙ ap (λ (gave : List Given). gave ++ second.given) first.since ∙ append_assoc before first.given second.given) in
          all-split first.given second.given (subst (λ (given : List Given). AllByRecursion (IsPrefixIn told) given) same whole.prefixes)

      pub agrees_first : AgreesSince told before between
      agrees_first = record { given = first.given; since = first.since; prefixes = split.0 }

      pub agrees_second : AgreesSince told between after
      agrees_second = record { given = second.given; since = second.since; prefixes = split.1 }
