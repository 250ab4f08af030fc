-- The rows of a report are read one after another, each as its contents.
use Rattle.std.specs.Prelude.{◌≡◌, ℕ, ◌+◌, ◌-◌, ◌^◌, ◌<◌, ℤ, List, [], ◌∷◌, ◌++◌, map, codes, All, true, Some, Result, Ok, refl}
use Rattle.std.specs.Fmt.{decimal, signed_decimal}
use Rattle.std.specs.Int.RustNames.{unsigned_abs}
use Rattle.std.specs.List.{slice_split}
use Rattle.std.proofs.Common.{ap, sym, ◌∙◌, append_assoc, arith}
use Rattle.std.proofs.lemmas.List.{append-nil}
use Rattle.std.proofs.lemmas.List.Elements.{All-head, All-tail}
use Rattle.psi_net_model.specs.Name.{is_name}
use Rattle.psi_report.specs.Text.{samples_row, horizon_row, number_rows, item_text, figure_row, count_row, contents_rows, text_of}
use Rattle.psi_report.specs.declared.figure.Item.{Item}
use Rattle.psi_report.specs.declared.figure.HorizonCount.{HorizonCount}
use Rattle.psi_report.specs.declared.figure.Figure.{Figure}
use Rattle.psi_report.specs.Contents.{Contents}
use Rattle.psi_report_reader.specs.Lines.{lines_of}
use Rattle.psi_report_reader.specs.Reading.{blank, is_comma, item_of, with_samples, with_met, with_fields, with_row, read_lines, behind, IsReport}
use Rattle.psi_report_reader.proofs.DigitLemmas.{count-decimal, integer-signed}
use Rattle.psi_report_reader.proofs.FieldLemmas.{FitsCount, FitsFigure, last_line, text-fields}
use Rattle.psi_report_reader.proofs.NameLemmas.{name-again}

-- what the fields of lines tell, from line n on
abbrev read_rows : ℕ → Contents → List (List (List ℕ)) → Result Contents ℕ
read_rows n c [] = Ok c
read_rows n c (fields ∷ rows) = behind n (λ d. read_rows (n + 1) d rows) (with_row c fields)

read-fields : (n : ℕ) (c : Contents) (lines : List (List ℕ)) → read_lines n c lines ≡ read_rows n c (map (slice_split is_comma) lines)
unfolding read_lines
read-fields n c [] = refl
read-fields n c (line ∷ lines) =
    let rest : (d : Contents) → read_lines (n + 1) d lines ≡ read_rows (n + 1) d (map (slice_split is_comma) lines) = λ d. read-fields (n + 1) d lines in
    grind (arith, rest)

row-read : (n : ℕ) (c d : Contents) (a b v : List ℕ) (rows : List (List (List ℕ))) → with_fields c a b v ≡ Some d → read_rows n c ((a ∷ b ∷ v ∷ []) ∷ rows) ≡ read_rows (n + 1) d rows
unfolding with_row
row-read n c d a b v rows told = ap (behind n (λ e. read_rows (n + 1) e rows)) told

-- what is told, from its parts
abbrev told : ℕ → ℕ → List HorizonCount → List Figure → Contents
told samples met horizons figures = record { samples = samples; met = met; horizons = horizons; figures = figures }

horizon-fields : (c : Contents) (t n : ℕ) → t < 2 ^ 64 → n < 2 ^ 64
    → with_fields c (codes "horizon") (decimal t) (decimal n) ≡ Some (record c { horizons = c.horizons ++ record { horizon = t; count = n } ∷ [] })
unfolding with_fields
horizon-fields c t n first second = rw (count-decimal t first, count-decimal n second) refl

figure-fields : (c : Contents) (item : Item) (name : List ℕ) (value : ℤ) → is_name name ≡ true → unsigned_abs value < 10 ^ 37
    → with_fields c (item_text item) name (signed_decimal value) ≡ Some (record c { figures = c.figures ++ record { item = item; name = name; value = value } ∷ [] })
unfolding with_fields item_of
figure-fields c item name value is fits = grind (arith, name-again name is, integer-signed value fits)

-- the rows of figures, and the last line
figures-read : (n s m : ℕ) (hs : List HorizonCount) (before fs : List Figure) → All FitsFigure fs → read_rows n (told s m hs before) (map figure_row fs ++ last_line) ≡ Ok (told s m hs (before ++ fs))
unfolding figure_row with_row
figures-read n s m hs before [] all = ap (λ (gs : List Figure). Ok (told s m hs gs)) (sym (append-nil before))
figures-read n s m hs before (f ∷ fs) all =
    let fits : FitsFigure f = All-head FitsFigure f fs all in
    row-read n (told s m hs before) (told s m hs (before ++ f ∷ [])) (item_text f.item) f.name (signed_decimal f.value) (map figure_row fs ++ last_line)
    (figure-fields (told s m hs before) f.item f.name f.value fits.0 fits.1)
    ∙ cc (figures-read (n + 1) s m hs (before ++ f ∷ []) fs (All-tail FitsFigure f fs all), append_assoc before (f ∷ []) fs)

-- and before them those of horizons
horizons-read : (n s m : ℕ) (before hs : List HorizonCount) (fs : List Figure) → All FitsCount hs → All FitsFigure fs
    → read_rows n (told s m before []) (map count_row hs ++ (map figure_row fs ++ last_line)) ≡ Ok (told s m (before ++ hs) fs)
unfolding horizon_row
horizons-read n s m before [] fs all fit = figures-read n s m before [] fs fit ∙ ap (λ (gs : List HorizonCount). Ok (told s m gs fs)) (sym (append-nil before))
horizons-read n s m before (h ∷ hs) fs all fit =
    let fits : FitsCount h = All-head FitsCount h hs all in
    row-read n (told s m before []) (told s m (before ++ h ∷ []) []) (codes "horizon") (decimal h.horizon) (decimal h.count) (map count_row hs ++ (map figure_row fs ++ last_line))
    (horizon-fields (told s m before []) h.horizon h.count fits.0 fits.1)
    ∙ cc (horizons-read (n + 1) s m (before ++ h ∷ []) hs fs (All-tail FitsCount h hs all) fit, append_assoc before (h ∷ []) hs)

-- all rows
rows-read : (c : Contents) → IsReport c → read_rows 1 blank (contents_rows c ++ last_line) ≡ Ok c
unfolding contents_rows number_rows with_fields
rows-read c is =
    let none : Contents = told c.samples 0 [] [] in
    let both : Contents = told c.samples c.met [] [] in
    let four = (map count_row c.horizons ++ map figure_row c.figures) ++ last_line in
    let three = samples_row (codes "uncoupled") (c.samples - c.met) ∷ four in
    let two = samples_row (codes "met") c.met ∷ three in
    row-read 1 blank blank (codes "item") (codes "name") (codes "value") (samples_row (codes "samples") c.samples ∷ two) refl
    ∙ row-read 2 blank none (codes "samples") (codes "-") (decimal c.samples) two (ap (with_samples blank) (count-decimal c.samples is.samples))
    ∙ row-read 3 none both (codes "met") (codes "-") (decimal c.met) three (ap (with_met none) (count-decimal c.met is.met))
    ∙ row-read 4 both both (codes "uncoupled") (codes "-") (decimal (c.samples - c.met)) four refl
    ∙ ap (read_rows 5 both) (append_assoc (map count_row c.horizons) (map figure_row c.figures) last_line)
    ∙ horizons-read 5 c.samples c.met [] c.horizons c.figures is.horizons is.figures

pub lines-read : (c : Contents) → IsReport c → read_lines 1 blank (lines_of (text_of c)) ≡ Ok c
lines-read c is = read-fields 1 blank (lines_of (text_of c)) ∙ ap (read_rows 1 blank) (text-fields c is) ∙ rows-read c is
