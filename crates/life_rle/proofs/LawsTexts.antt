-- The texts that lines leave: the first name, the first author, and the others as comments in their order.
use Rattle.std.proofs.Common.{◌≡◌, ℕ, Bool, true, false, cond, eqb, ◌||◌, List, [], ◌∷◌, ◌++◌, length, map, refl, ap}
use Rattle.std.proofs.Common.{◌∙◌, sym, subst, arith, Option, Some, None, is_some, Ok, Err}
use Rattle.std.specs.List.{filter, flat_map}
use Rattle.std.specs.Option.{option_or}
use Rattle.std.proofs.lemmas.List.{append_assoc, append-nil}
use Rattle.std.proofs.lemmas.Bool.{ne_eqb}
use Rattle.life_core.specs.RuleText.{without_blanks}
use Rattle.life_rle.specs.declared.rle_fault.RleFault.TheVariants.{TextLimit}
use Rattle.life_rle.specs.RleLines.{Line, passed, named, authored, comment, ruled, header, line_kind, lines_of}
use Rattle.life_rle.specs.Notes.{Notes, no_notes, with_line, notes_of, is_past_limit}
use Rattle.life_rle.specs.Header.{header_rule}
use Rattle.life_rle.specs.Body.{body_cells}
use Rattle.life_rle.specs.Record.{Contents}
use Rattle.life_rle.specs.File.{front_lines, header_lines, chosen_rule, body_part, contents, after_front, read_lines}
use Rattle.life_rle.specs.File.{kept}
use Rattle.life_rle.specs.RleLaws.{is_name, is_author, is_rule, is_comment, text_of_line, first_text, without_first}
use Rattle.life_rle.specs.RleLaws.{NotesAreTheLines, TextsAreTheFile}
use Rattle.life_rle.proofs.RecordLaws.{bind_ok}

-- the lines that give a text
abbrev texts : List Line → List Line
texts lines = filter (λ line. is_name line || is_author line || is_comment line) lines

-- the lines without the first of a kind, unless there is one already
abbrev but_first : Option (List ℕ) → (Line → Bool) → List Line → List Line
but_first None p lines = without_first p lines
but_first (Some text) p lines = lines

-- the comments that lines leave after such a name and such an author
abbrev others : Option (List ℕ) → Option (List ℕ) → List Line → List (List ℕ)
others name author lines = map text_of_line (but_first name is_name (but_first author is_author lines))

-- what lines leave, after those that left other texts
record After (old new : Notes) (lines : List Line) : Type 0 where
  name : new.name ≡ option_or old.name (first_text is_name lines)
  author : new.author ≡ option_or old.author (first_text is_author lines)
  comments : new.comments ≡ old.comments ++ others old.name old.author (texts lines)
  rule : new.rule ≡ option_or old.rule (first_text is_rule lines)

abbrev noted : Option (List ℕ) → Option (List ℕ) → List (List ℕ) → Option (List ℕ) → Notes
noted name author comments rule = record { name = name; author = author; comments = comments; rule = rule }

or_none : {X : Type 0} (o : Option X) → o ≡ option_or o None
or_none None = refl
or_none (Some x) = refl

or_false : (t : Bool) → (t || false) ≡ t
or_false true = refl
or_false false = refl

or_true : (t : Bool) → (t || true) ≡ true
or_true true = refl
or_true false = refl

no_others : (name author : Option (List ℕ)) → others name author [] ≡ []
no_others None None = refl
no_others None (Some author) = refl
no_others (Some name) None = refl
no_others (Some name) (Some author) = refl

-- ---- one line

-- if a name, an author or a comment stands among the others
first_name : (author : Option (List ℕ)) (b : ℕ) (bytes : List ℕ) (lines : List Line)
    → others (Some (b ∷ bytes)) author lines ≡ others None author (named (b ∷ bytes) ∷ lines)
first_name None b bytes lines = refl
first_name (Some text) b bytes lines = refl

other_name : (name : List ℕ) (author : Option (List ℕ)) (b : ℕ) (bytes : List ℕ) (lines : List Line)
    → (b ∷ bytes) ∷ others (Some name) author lines ≡ others (Some name) author (named (b ∷ bytes) ∷ lines)
other_name name None b bytes lines = refl
other_name name (Some text) b bytes lines = refl

other_author : (name : Option (List ℕ)) (author : List ℕ) (b : ℕ) (bytes : List ℕ) (lines : List Line)
    → (b ∷ bytes) ∷ others name (Some author) lines ≡ others name (Some author) (authored (b ∷ bytes) ∷ lines)
other_author None author b bytes lines = refl
other_author (Some text) author b bytes lines = refl

a_comment : (name author : Option (List ℕ)) (bytes : List ℕ) (lines : List Line)
    → bytes ∷ others name author lines ≡ others name author (comment bytes ∷ lines)
a_comment None None bytes lines = refl
a_comment None (Some author) bytes lines = refl
a_comment (Some name) None bytes lines = refl
a_comment (Some name) (Some author) bytes lines = refl

-- a text that is one more comment
one_more : (all comments : List (List ℕ)) (bytes : List ℕ) (rest behind : List (List ℕ))
    → all ≡ (comments ++ bytes ∷ []) ++ rest → bytes ∷ rest ≡ behind → all ≡ comments ++ behind
one_more all comments bytes rest behind h is =
    h ∙ append_assoc comments (bytes ∷ []) rest ∙ ap (λ ts. comments ++ ts) is

-- the line of a text that is not empty
some_text : (b : ℕ) (bytes : List ℕ) (old kept new : Notes) (lines : List Line)
    → After (cond (eqb (length (b ∷ bytes)) 0) old kept) new lines → After kept new lines
some_text b bytes old kept new lines h =
    subst (λ t. After (cond t old kept) new lines) (ne_eqb (length (b ∷ bytes)) 0 (λ e. omega arith)) h

name_line : (name author rule : Option (List ℕ)) (comments : List (List ℕ)) (new : Notes) (b : ℕ)
    (bytes : List ℕ) (lines : List Line)
    → After (cond (is_some name) (noted name author (comments ++ (b ∷ bytes) ∷ []) rule)
    (noted (Some (b ∷ bytes)) author comments rule)) new lines
    → After (noted name author comments rule) new (named (b ∷ bytes) ∷ lines)
name_line None author rule comments new b bytes lines h =
    record {
      name = h.name;
      author = h.author;
      comments = h.comments ∙ ap (λ ts. comments ++ ts) (first_name author b bytes (texts lines));
      rule = h.rule;
    }
name_line (Some name) author rule comments new b bytes lines h =
    record {
      name = h.name;
      author = h.author;
      comments =
          one_more new.comments comments (b ∷ bytes) _ _ h.comments (other_name name author b bytes (texts lines));
      rule = h.rule;
    }

author_line : (name author rule : Option (List ℕ)) (comments : List (List ℕ)) (new : Notes)
    (b : ℕ) (bytes : List ℕ) (lines : List Line)
    → After (cond (is_some author) (noted name author (comments ++ (b ∷ bytes) ∷ []) rule)
    (noted name (Some (b ∷ bytes)) comments rule)) new lines
    → After (noted name author comments rule) new (authored (b ∷ bytes) ∷ lines)
author_line name None rule comments new b bytes lines h =
    record { name = h.name; author = h.author; comments = h.comments; rule = h.rule }
author_line name (Some author) rule comments new b bytes lines h =
    record {
      name = h.name;
      author = h.author;
      comments =
          one_more new.comments comments (b ∷ bytes) _ _ h.comments (other_author name author b bytes (texts lines));
      rule = h.rule;
    }

rule_line : (name author rule : Option (List ℕ)) (comments : List (List ℕ)) (new : Notes) (b : ℕ)
    (bytes : List ℕ) (lines : List Line)
    → After (cond (eqb (length (b ∷ bytes)) 0 || is_some rule) (noted name author comments rule)
    (noted name author comments (Some (b ∷ bytes)))) new lines
    → After (noted name author comments rule) new (ruled (b ∷ bytes) ∷ lines)
rule_line name author None comments new b bytes lines h =
    let on = some_text b bytes (noted name author comments None)
    (noted name author comments (Some (b ∷ bytes))) new lines
    (subst (λ t. After (cond t (noted name author comments None) (noted name author comments (Some (b ∷ bytes))))
    new lines) (or_false (eqb (length (b ∷ bytes)) 0)) h) in
    record { name = on.name; author = on.author; comments = on.comments; rule = on.rule }
rule_line name author (Some rule) comments new b bytes lines h =
    let on = subst (λ t. After (cond t (noted name author comments (Some rule))
    (noted name author comments (Some (b ∷ bytes)))) new lines) (or_true (eqb (length (b ∷ bytes)) 0)) h in
    record { name = on.name; author = on.author; comments = on.comments; rule = on.rule }

one_line : (name author rule : Option (List ℕ)) (comments : List (List ℕ)) (new : Notes) (line : Line)
    (lines : List Line)
    → After (with_line (noted name author comments rule) line) new lines
    → After (noted name author comments rule) new (line ∷ lines)
one_line name author rule comments new passed lines h =
    record { name = h.name; author = h.author; comments = h.comments; rule = h.rule }
one_line name author rule comments new header lines h =
    record { name = h.name; author = h.author; comments = h.comments; rule = h.rule }
one_line name author rule comments new (named []) lines h =
    record { name = h.name; author = h.author; comments = h.comments; rule = h.rule }
one_line name author rule comments new (authored []) lines h =
    record { name = h.name; author = h.author; comments = h.comments; rule = h.rule }
one_line name author rule comments new (ruled []) lines h =
    record { name = h.name; author = h.author; comments = h.comments; rule = h.rule }
one_line name author rule comments new (comment bytes) lines h =
    record {
      name = h.name;
      author = h.author;
      comments = one_more new.comments comments bytes _ _ h.comments (a_comment name author bytes (texts lines));
      rule = h.rule;
    }
one_line name author rule comments new (named (b ∷ bytes)) lines h =
    name_line name author rule comments new b bytes lines (some_text b bytes _ _ new lines h)
one_line name author rule comments new (authored (b ∷ bytes)) lines h =
    author_line name author rule comments new b bytes lines (some_text b bytes _ _ new lines h)
one_line name author rule comments new (ruled (b ∷ bytes)) lines h =
    rule_line name author rule comments new b bytes lines h

-- ---- all lines

after_lines : (lines : List (List ℕ)) (n : Notes) → After n (notes_of n lines) (map line_kind lines)
after_lines [] n = record {
  name = or_none n.name;
  author = or_none n.author;
  comments = sym (ap (λ ts. n.comments ++ ts) (no_others n.name n.author) ∙ append-nil n.comments);
  rule = or_none n.rule;
}
after_lines (line ∷ lines) n =
    one_line n.name n.author n.rule n.comments (notes_of n (line ∷ lines)) (line_kind line)
    (map line_kind lines) (after_lines lines (with_line n (line_kind line)))

pub notes_are_the_lines : NotesAreTheLines
notes_are_the_lines lines =
    let all = after_lines lines no_notes in
    (record { name_first = all.name; author_first = all.author; others = all.comments }, all.rule)

-- ---- files

read_texts : (n : Notes) (lines : List (List ℕ)) (r : Contents) → after_front n lines ≡ Ok r
    → (n.name ≡ r.name) × (n.author ≡ r.author) × (n.comments ≡ r.comments)
unfolding after_front
read_texts n [] r read = absurd cc
read_texts n (line ∷ lines) r read =
    let header = bind_ok (header_rule (without_blanks line)) _ r read in
    let rule = bind_ok (chosen_rule header.0 n.rule) _ r header.2 in
    let cells = bind_ok (body_cells (flat_map body_part lines)) _ r rule.2 in
    let same : contents n rule.0 cells.0 ≡ r = cc in
    (ap (λ c. c.name) same, ap (λ c. c.author) same, ap (λ c. c.comments) same)

by_limit : (t : Bool) (n : Notes) (lines : List (List ℕ)) (r : Contents) → cond t (Err TextLimit) (after_front n lines)
    ≡ Ok r → (n.name ≡ r.name) × (n.author ≡ r.author) × (n.comments ≡ r.comments)
by_limit true n lines r read = absurd cc
by_limit false n lines r read = read_texts n lines r read

pub texts_are_the_file : TextsAreTheFile
unfolding kept read_lines
texts_are_the_file bytes r read =
    let front : List (List ℕ) = front_lines (lines_of bytes) in
    let same = by_limit (is_past_limit (notes_of no_notes front)) (notes_of no_notes front)
    (header_lines (lines_of bytes)) r read in
    let all = after_lines front no_notes in
    record {
      name_first = sym same.0 ∙ all.name;
      author_first = sym same.1 ∙ all.author;
      others = sym same.2 ∙ all.comments;
    }
