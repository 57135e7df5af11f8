-- A file that is read gives a valid record: its texts are within their limits, without line feeds and without blanks
-- at their ends.
use Rattle.std.proofs.Common.{◌≡◌, ◌≢◌, ℕ, zero, suc, Bool, true, false, cond, eqb, ltb, not, ◌||◌, List, [], ◌∷◌, ◌++◌}
use Rattle.std.proofs.Common.{length, reverse, take, drop, nat_eq, map, refl, sym, subst, Option, Some, None, is_some}
use Rattle.std.proofs.Common.{Result, Ok, Err, arith}
use Rattle.std.specs.Prelude.{slice_index, codes}
use Rattle.std.specs.List.{AllByRecursion, flat_map, list_any, starts_with}
use Rattle.std.proofs.lemmas.List.{reverse-append}
use Rattle.std.proofs.lemmas.Bool.{or_parts, ltb-false, eqb-false}
use Rattle.std.specs.FinSet as set
use Rattle.life_core.specs.Rule.{RuleSets}
use Rattle.life_core.specs.Pattern.{Cells, normal}
use Rattle.life_core.specs.RuleText.{is_blank, without_blanks}
use Rattle.life_rle.specs.declared.rle_fault.RleFault.{RleFault}
use Rattle.life_rle.specs.declared.rle_fault.RleFault.TheVariants.{TextLimit}
use Rattle.life_rle.specs.RleFault.{◌>>=◌}
use Rattle.life_rle.specs.RleLines.{lines_of, trim_start, trim, Line, passed, named, authored, comment, ruled, header}
use Rattle.life_rle.specs.RleLines.{marked, line_kind}
use Rattle.life_rle.specs.Notes.{Notes, no_notes, with_comment, with_line, notes_of, is_long, is_long_text}
use Rattle.life_rle.specs.Notes.{is_past_limit}
use Rattle.life_rle.specs.Header.{header_rule}
use Rattle.life_rle.specs.Body.{body_cells}
use Rattle.life_rle.specs.Record.{Contents, HasNoLineEnd, IsText, IsName, IsRecord, plain}
use Rattle.life_rle.specs.File.{cell_of, front_lines, header_lines, chosen_rule, body_part, contents, after_front}
use Rattle.life_rle.specs.File.{read_lines, kept}
use Rattle.life_rle.proofs.LinesLaws.{no_end_push, lines_no_end, trim_twice}
use Rattle.life_rle.proofs.RecordCells.{normal-normal}

-- ---- lines

-- a text but for its length
record IsLineText (bytes : List ℕ) : Type 0 where
  line : HasNoLineEnd bytes
  trimmed : trim bytes ≡ bytes

abbrev IsLineKind : Line → Type 0
IsLineKind passed = Unit {0}
IsLineKind (named text) = IsLineText text
IsLineKind (authored text) = IsLineText text
IsLineKind (comment text) = IsLineText text
IsLineKind (ruled text) = Unit {0}
IsLineKind header = Unit {0}

no_end_trimmed_by : (t : Bool) (b : ℕ) (bytes : List ℕ) → HasNoLineEnd (b ∷ bytes) → HasNoLineEnd (trim_start bytes)
    → HasNoLineEnd (cond t (trim_start bytes) (b ∷ bytes))
no_end_trimmed_by true b bytes p rest = rest
no_end_trimmed_by false b bytes p rest = p

no_end_trim_start : (bytes : List ℕ) → HasNoLineEnd bytes → HasNoLineEnd (trim_start bytes)
no_end_trim_start [] p = p
no_end_trim_start (b ∷ bytes) p = no_end_trimmed_by (is_blank b) b bytes p (no_end_trim_start bytes p.1)

no_end_reverse : (bytes : List ℕ) → HasNoLineEnd bytes → HasNoLineEnd (reverse bytes)
no_end_reverse [] p = p
no_end_reverse (b ∷ bytes) p =
    subst HasNoLineEnd (sym (reverse-append (b ∷ []) bytes))
    (no_end_push (reverse bytes) b (no_end_reverse bytes p.1) p.0)

no_end_trim : (bytes : List ℕ) → HasNoLineEnd bytes → HasNoLineEnd (trim bytes)
no_end_trim bytes p = no_end_reverse _ (no_end_trim_start _ (no_end_reverse _ (no_end_trim_start bytes p)))

no_end_behind : (bytes : List ℕ) → HasNoLineEnd bytes → HasNoLineEnd (drop 2 bytes)
no_end_behind [] p = tt
no_end_behind (a ∷ []) p = tt
no_end_behind (a ∷ b ∷ bytes) p = p.1.1

either_kind : (t : Bool) (a b : Line) → IsLineKind a → IsLineKind b → IsLineKind (cond t a b)
either_kind true a b p q = p
either_kind false a b p q = q

marked_kind : (letter : ℕ) (text : List ℕ) → IsLineText text → IsLineKind (marked letter text)
marked_kind letter text p =
    either_kind (eqb letter 78) _ _ p (either_kind (eqb letter 79) _ _ p
    (either_kind (eqb letter 67 || eqb letter 99) _ _ p (either_kind (eqb letter 114) (ruled text) passed tt tt)))

line_is : (line : List ℕ) → HasNoLineEnd line → IsLineKind (line_kind line)
unfolding line_kind
line_is line p =
    let front : List ℕ = trim_start line in
    let text : List ℕ = trim (drop 2 front) in
    let is_text : IsLineText text = record {
      line = no_end_trim (drop 2 front) (no_end_behind front (no_end_trim_start line p));
      trimmed = trim_twice (drop 2 front);
    } in
    either_kind (eqb (length front) 0) passed _ tt
    (either_kind (not (eqb (slice_index front 0) 35)) header _ tt
    (either_kind (starts_with nat_eq front (codes "#CXRLE")) passed _ tt
    (marked_kind (slice_index front 1) text is_text)))

-- ---- notes

abbrev IsLineName : Option (List ℕ) → Type 0
IsLineName None = Unit {0}
IsLineName (Some bytes) = IsLineText bytes × (length bytes ≢ 0)

record AreNotes (n : Notes) : Type 0 where
  name : IsLineName n.name
  author : IsLineName n.author
  comments : AllByRecursion IsLineText n.comments

all_push : (texts : List (List ℕ)) (text : List ℕ) → AllByRecursion IsLineText texts → IsLineText text
    → AllByRecursion IsLineText (texts ++ text ∷ [])
all_push [] text all p = (p, tt)
all_push (x ∷ texts) text all p = (all.0, all_push texts text all.1 p)

noted_comment : (n : Notes) (text : List ℕ) → AreNotes n → IsLineText text → AreNotes (with_comment n text)
noted_comment n text h p = record { name = h.name; author = h.author; comments = all_push n.comments text h.comments p }

either_notes : (t : Bool) (a b : Notes) → AreNotes a → (t ≡ false → AreNotes b) → AreNotes (cond t a b)
either_notes true a b p q = p
either_notes false a b p q = q refl

noted_line : (n : Notes) (line : Line) → AreNotes n → IsLineKind line → AreNotes (with_line n line)
noted_line n passed h p = h
noted_line n (named text) h p =
    either_notes (eqb (length text) 0) n _ h
    (λ some. either_notes (is_some n.name) (with_comment n text) _ (noted_comment n text h p)
    (λ _. record { name = (p, eqb-false (length text) 0 some); author = h.author; comments = h.comments }))
noted_line n (authored text) h p =
    either_notes (eqb (length text) 0) n _ h
    (λ some. either_notes (is_some n.author) (with_comment n text) _ (noted_comment n text h p)
    (λ _. record { name = h.name; author = (p, eqb-false (length text) 0 some); comments = h.comments }))
noted_line n (comment text) h p = noted_comment n text h p
noted_line n (ruled text) h p =
    either_notes (eqb (length text) 0 || is_some n.rule) n _ h
    (λ _. record { name = h.name; author = h.author; comments = h.comments })
noted_line n header h p = h

noted_lines : (lines : List (List ℕ)) (n : Notes) → AreNotes n → AllByRecursion HasNoLineEnd lines
    → AreNotes (notes_of n lines)
noted_lines [] n h all = h
noted_lines (line ∷ lines) n h all =
    noted_lines lines (with_line n (line_kind line)) (noted_line n (line_kind line) h (line_is line all.0)) all.1

take_lines : (n : ℕ) (lines : List (List ℕ)) → AllByRecursion HasNoLineEnd lines
    → AllByRecursion HasNoLineEnd (take n lines)
take_lines zero lines all = tt
take_lines (suc n) [] all = tt
take_lines (suc n) (line ∷ lines) all = (all.0, take_lines n lines all.1)

-- ---- limits

short_text : (bytes : List ℕ) → IsLineText bytes → is_long bytes ≡ false → IsText bytes
short_text bytes p short = record { short = ltb-false 200 (length bytes) short; line = p.line; trimmed = p.trimmed }

short_name : (name : Option (List ℕ)) → IsLineName name → is_long_text name ≡ false → IsName name
short_name None p short = tt
short_name (Some bytes) p short = (short_text bytes p.0 short, p.1)

short_comments : (texts : List (List ℕ)) → AllByRecursion IsLineText texts → list_any is_long texts ≡ false
    → AllByRecursion IsText texts
short_comments [] all short = tt
short_comments (text ∷ texts) all short =
    let both = or_parts (is_long text) (list_any is_long texts) short in
    (short_text text all.0 both.0, short_comments texts all.1 both.1)

contents_is : (n : Notes) (rule : RuleSets) (cells : List (ℕ × ℕ)) → AreNotes n → is_past_limit n ≡ false
    → IsRecord (contents n rule cells)
contents_is n rule cells h limit =
    let first = or_parts (is_long_text n.name || is_long_text n.author || list_any is_long n.comments)
    (ltb 64 (length n.comments)) limit in
    let second = or_parts (is_long_text n.name || is_long_text n.author) (list_any is_long n.comments) first.0 in
    let third = or_parts (is_long_text n.name) (is_long_text n.author) second.0 in
    record {
      name = short_name n.name h.name third.0;
      author = short_name n.author h.author third.1;
      comments = short_comments n.comments h.comments second.1;
      few = ltb-false 64 (length n.comments) first.1;
      cells = normal-normal (set.from_list (map cell_of cells));
    }

-- ---- files

-- what follows was given something that was read
pub bind_ok : {A B : Type 0} (a : Result A RleFault) (f : A → Result B RleFault) (b : B) → (a >>= f) ≡ Ok b
    → (x : A) × (a ≡ Ok x) × (f x ≡ Ok b)
bind_ok (Ok x) f b h = (x, refl, h)
bind_ok (Err fault) f b h = absurd cc

after_front_is : (n : Notes) (lines : List (List ℕ)) (r : Contents) → AreNotes n → is_past_limit n ≡ false
    → after_front n lines ≡ Ok r → IsRecord r
unfolding after_front
after_front_is n [] r h limit read = absurd cc
after_front_is n (line ∷ lines) r h limit read =
    let header = bind_ok (header_rule (without_blanks line)) _ r read in
    let rule = bind_ok (chosen_rule header.0 n.rule) _ r header.2 in
    let cells = bind_ok (body_cells (flat_map body_part lines)) _ r rule.2 in
    let same : contents n rule.0 cells.0 ≡ r = cc in
    subst IsRecord same (contents_is n rule.0 cells.0 h limit)

by_limit : (t : Bool) (n : Notes) (lines : List (List ℕ)) (r : Contents) → is_past_limit n ≡ t
    → AreNotes n → cond t (Err TextLimit) (after_front n lines) ≡ Ok r → IsRecord r
by_limit true n lines r limit h read = absurd cc
by_limit false n lines r limit h read = after_front_is n lines r h limit read

-- whatever a file is read as is a record
pub kept_is_record : (bytes : List ℕ) (r : Contents) → kept bytes ≡ Ok r → IsRecord r
unfolding kept read_lines
kept_is_record bytes r read =
    let notes : Notes = notes_of no_notes (front_lines (lines_of bytes)) in
    let noted : AreNotes notes = noted_lines (front_lines (lines_of bytes)) no_notes
    (record { name = tt; author = tt; comments = tt }) (take_lines _ (lines_of bytes) (lines_no_end bytes [] tt)) in
    by_limit (is_past_limit notes) notes (header_lines (lines_of bytes)) r refl noted read

-- a normal set without texts is a record
pub plain_is_record : (rule : RuleSets) (X : Cells) (comments : List (List ℕ)) (cells : Cells)
    → comments ≡ [] → cells ≡ normal X →
    IsRecord (record { name = None; author = None; comments = comments; rule = rule; cells = cells })
plain_is_record rule X comments cells none is =
    let h : IsRecord (plain rule X) = record {
      name = tt;
      author = tt;
      comments = tt;
      few = omega arith;
      cells = normal-normal X;
    } in
    subst (λ (texts : List (List ℕ)). IsRecord (record {
      name = None;
      author = None;
      comments = texts;
      rule = rule;
      cells = cells;
    })) (sym none)
    (subst (λ (Y : Cells). IsRecord (record { name = None; author = None; comments = []; rule = rule; cells = Y }))
    (sym is) h)
