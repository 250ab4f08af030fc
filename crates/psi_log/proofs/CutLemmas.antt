-- Of the words of a line at the beginning and at the end the first 4,101 are enough.
use Rattle.std.specs.Prelude.{◌≡◌, ℕ, ◌<◌, List, [], ◌∷◌, length, take, codes, None, Err, refl}
use Rattle.std.specs.Str.{bytes_eq}
use Rattle.std.proofs.Common.{arith}
use Rattle.psi_log_words.specs.Refusal.{refused}
use Rattle.psi_log_words.specs.declared.refusals.LogCause.TheVariants.{Shape}
use Rattle.psi_log_words.specs.Regions.{form_of}
use Rattle.psi_log.specs.Reading.{read_begin, read_end}
use Rattle.psi_log_scan.proofs.CutLemmas.{cut, three, either_way, form_fails, form_long}

begin_long : (queues : ℕ) (words : List (List ℕ)) → 4098 < length words → read_begin queues words ≡ Err (refused 6 Shape)
unfolding read_begin
begin_long queues [] many = absurd (omega arith)
begin_long queues (first ∷ region) many =
    either_way (refused 6 Shape) (bytes_eq first (codes "begin")) _
    (form_fails (refused 6 Shape) (form_of 6 queues None region) _ (form_long 6 queues None region (omega arith)))

pub begin_cut : (queues : ℕ) (words : List (List ℕ)) → read_begin queues (take 4101 words) ≡ read_begin queues words
begin_cut queues = cut 4100 (read_begin queues) (refused 6 Shape) (λ words many. begin_long queues words (omega arith))

pub end_cut : (n queues : ℕ) (words : List (List ℕ)) → read_end n queues (take 4101 words) ≡ read_end n queues words
unfolding read_end
end_cut n queues = cut 4100 (read_end n queues) (refused n Shape) (λ words many. three 4100 (read_end n queues) (Err (refused n Shape)) (λ a b c rest more. refl) words many (omega arith))
