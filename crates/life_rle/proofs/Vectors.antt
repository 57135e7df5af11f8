-- Worked files, as computations: what they are read as, and what is written for lists of cells.
use Rattle.std.specs.Prelude.{◌≡◌, ℕ, codes, zero, suc, ◌+◌, List, [], ◌∷◌, ◌++◌, replicate, take, drop, Some, None}
use Rattle.std.specs.Prelude.{Result, Ok, Err, refl}
use Rattle.std.specs.List.{flat_map}
use Rattle.std.specs.Fmt.{digits}
use Rattle.life_core.specs.Rule.{life}
use Rattle.life_core.specs.RuleText.{without_blanks, read_rule}
use Rattle.life_rle.specs.declared.rle_fault.RleFault.{RleFault}
use Rattle.life_rle.specs.declared.rle_fault.RleFault.TheVariants.{TextLimit, NoHeader, BadHeader, BadRule, OtherTag}
use Rattle.life_rle.specs.declared.rle_fault.RleFault.TheVariants.{BadCount, TooWide, NoEnd}
use Rattle.life_rle.specs.RleLines.{lines_after, lines_of, line_kind}
use Rattle.life_rle.specs.Notes.{Notes, no_notes, notes_of}
use Rattle.life_rle.specs.Header.{rule_part, header_form, header_rule}
use Rattle.life_rle.specs.Body.{items_after, row_after, column_after, run, placed_after, checked_after, body_cells}
use Rattle.life_rle.specs.File.{front_lines, header_lines, body_part, contents, after_front, read_lines, kept}
use Rattle.life_rle.specs.Writer.{tags_from, runs_of, item_texts, laid, width_of, height_of, header_line}

-- lines with their ends
abbrev unlines : List (List ℕ) → List ℕ
unlines lines = flat_map (λ line. line ++ 10 ∷ []) lines

-- a file with this line after a header
abbrev below : List ℕ → List ℕ
below line = unlines (codes "x = 1, y = 1" ∷ line ∷ [])

-- what the lines before the header of a file say
abbrev notes_in : List ℕ → Notes
notes_in file = notes_of no_notes (front_lines (lines_of file))

-- the cells that the body of a file places
abbrev cells_in : List ℕ → Result (List (ℕ × ℕ)) RleFault
cells_in file = body_cells (flat_map body_part (drop 1 (header_lines (lines_of file))))

-- the header and the body of Life cells in order
abbrev written : List (ℕ × ℕ) → List ℕ
written cells = header_line (width_of cells) (height_of cells) (codes "B3/S23") ++ laid 0 (item_texts cells)

-- the n cells of a row in every other column, from a column on
abbrev every_other : ℕ → ℕ → List (ℕ × ℕ)
every_other column zero = []
every_other column (suc n) = (column, 0) ∷ every_other (column + 2) n

-- ---- reading

glider : kept (unlines (codes "x = 3, y = 3" ∷ codes "bo$2bo$3o!" ∷ []))
    ≡ Ok (contents no_notes life ((1, 0) ∷ (2, 1) ∷ (0, 2) ∷ (1, 2) ∷ (2, 2) ∷ []))
unfolding lines_after line_kind rule_part header_form header_rule read_rule items_after row_after
    column_after run placed_after checked_after body_cells after_front read_lines kept
glider = refl

glider_crlf : kept (codes "x = 3, y = 3" ++ 13 ∷ 10 ∷ codes "bo$2bo$3o!" ++ 13 ∷ 10 ∷ [])
    ≡ Ok (contents no_notes life ((1, 0) ∷ (2, 1) ∷ (0, 2) ∷ (1, 2) ∷ (2, 2) ∷ []))
unfolding lines_after line_kind rule_part header_form header_rule read_rule items_after row_after
    column_after run placed_after checked_after body_cells after_front read_lines kept
glider_crlf = refl

empty : kept (unlines (codes "x = 0, y = 0" ∷ codes "!" ∷ [])) ≡ Ok (contents no_notes life [])
unfolding lines_after line_kind rule_part header_form header_rule read_rule items_after row_after
    column_after run placed_after checked_after body_cells after_front read_lines kept
empty = refl

far_cell : cells_in (below (codes "1023bo!")) ≡ Ok ((1023, 0) ∷ [])
unfolding lines_after line_kind rule_part header_form header_rule read_rule items_after row_after
    column_after run placed_after checked_after body_cells after_front read_lines kept
far_cell = refl

far_dead : cells_in (below (codes "2000b$o!")) ≡ Ok ((0, 1) ∷ [])
unfolding lines_after line_kind rule_part header_form header_rule read_rule items_after row_after
    column_after run placed_after checked_after body_cells after_front read_lines kept
far_dead = refl

far_rows : cells_in (below (codes "1000000$1000000$!")) ≡ Ok []
unfolding lines_after line_kind rule_part header_form header_rule read_rule items_after row_after
    column_after run placed_after checked_after body_cells after_front read_lines kept
far_rows = refl

texts : notes_in (unlines (codes "#N Glider" ∷ codes "#O A. Member" ∷ codes "#C first" ∷ codes "#c second" ∷ codes
    "#N Other" ∷ codes "#CXRLE Pos=-1,-1 Gen=0" ∷ codes "x = 3, y = 3, rule = B3/S23" ∷ codes "bo$2bo$3o!" ∷ []))
    ≡ record {
      name = Some (codes "Glider");
      author = Some (codes "A. Member");
      comments = codes "first" ∷ codes "second" ∷ codes "Other" ∷ [];
      rule = None;
    }
unfolding lines_after line_kind rule_part header_form header_rule read_rule items_after row_after
    column_after run placed_after checked_after body_cells after_front read_lines kept
texts = refl

odd_texts : notes_in (unlines (codes "# x" ∷ codes "#N" ∷ codes "#N  Twin " ∷ codes "#O" ∷ codes "#C" ∷ codes
    "#r B36/S23" ∷ codes "x=2,Y=1,RULE=s23b3" ∷ codes "#C late" ∷ codes "2" ∷ codes "#note" ∷ codes " o ! rest" ∷ []))
    ≡ record { name = Some (codes "Twin"); author = None; comments = [] ∷ []; rule = Some (codes "B36/S23") }
unfolding lines_after line_kind rule_part header_form header_rule read_rule items_after row_after
    column_after run placed_after checked_after body_cells after_front read_lines kept
odd_texts = refl

odd_cells : cells_in (unlines (codes "# x" ∷ codes "#N" ∷ codes "#N  Twin " ∷ codes "#O" ∷ codes "#C" ∷ codes
    "#r B36/S23" ∷ codes "x=2,Y=1,RULE=s23b3" ∷ codes "#C late" ∷ codes "2" ∷ codes "#note" ∷ codes " o ! rest" ∷ []))
    ≡ Ok ((0, 0) ∷ (1, 0) ∷ [])
unfolding lines_after line_kind rule_part header_form header_rule read_rule items_after row_after
    column_after run placed_after checked_after body_cells after_front read_lines kept
odd_cells = refl

odd_header : header_rule (without_blanks (codes "x=2,Y=1,RULE=s23b3")) ≡ Ok (Some (codes "s23b3"))
unfolding lines_after line_kind rule_part header_form header_rule read_rule items_after row_after
    column_after run placed_after checked_after body_cells after_front read_lines kept
odd_header = refl

long_header : header_rule (without_blanks (codes "x = 1111111111111111111111111111111111111111, y = 1")) ≡ Ok None
unfolding lines_after line_kind rule_part header_form header_rule read_rule items_after row_after
    column_after run placed_after checked_after body_cells after_front read_lines kept
long_header = refl

-- ---- faults

no_end : kept (below (codes "bo$2bo$3o")) ≡ Err NoEnd
unfolding lines_after line_kind rule_part header_form header_rule read_rule items_after row_after
    column_after run placed_after checked_after body_cells after_front read_lines kept
no_end = refl

zero_count : kept (below (codes "0o!")) ≡ Err BadCount
unfolding lines_after line_kind rule_part header_form header_rule read_rule items_after row_after
    column_after run placed_after checked_after body_cells after_front read_lines kept
zero_count = refl

counted_end : kept (below (codes "3!")) ≡ Err BadCount
unfolding lines_after line_kind rule_part header_form header_rule read_rule items_after row_after
    column_after run placed_after checked_after body_cells after_front read_lines kept
counted_end = refl

million : kept (below (codes "1000001b!")) ≡ Err BadCount
unfolding lines_after line_kind rule_part header_form header_rule read_rule items_after row_after
    column_after run placed_after checked_after body_cells after_front read_lines kept
million = refl

many_digits : kept (below (codes "99999999999999999999o!")) ≡ Err BadCount
unfolding lines_after line_kind rule_part header_form header_rule read_rule items_after row_after
    column_after run placed_after checked_after body_cells after_front read_lines kept
many_digits = refl

letter : kept (below (codes "A!")) ≡ Err OtherTag
unfolding lines_after line_kind rule_part header_form header_rule read_rule items_after row_after
    column_after run placed_after checked_after body_cells after_front read_lines kept
letter = refl

zero_letter : kept (below (codes "0A!")) ≡ Err BadCount
unfolding lines_after line_kind rule_part header_form header_rule read_rule items_after row_after
    column_after run placed_after checked_after body_cells after_front read_lines kept
zero_letter = refl

wide : kept (below (codes "1024bo!")) ≡ Err TooWide
unfolding lines_after line_kind rule_part header_form header_rule read_rule items_after row_after
    column_after run placed_after checked_after body_cells after_front read_lines kept
wide = refl

tall : kept (below (codes "1024$o!")) ≡ Err TooWide
unfolding lines_after line_kind rule_part header_form header_rule read_rule items_after row_after
    column_after run placed_after checked_after body_cells after_front read_lines kept
tall = refl

far_row : kept (below (codes "1000000$1000000$o!")) ≡ Err TooWide
unfolding lines_after line_kind rule_part header_form header_rule read_rule items_after row_after
    column_after run placed_after checked_after body_cells after_front read_lines kept
far_row = refl

no_file : kept [] ≡ Err NoHeader
unfolding lines_after line_kind rule_part header_form header_rule read_rule items_after row_after
    column_after run placed_after checked_after body_cells after_front read_lines kept
no_file = refl

half_header : kept (unlines (codes "x = 3" ∷ [])) ≡ Err BadHeader
unfolding lines_after line_kind rule_part header_form header_rule read_rule items_after row_after
    column_after run placed_after checked_after body_cells after_front read_lines kept
half_header = refl

rule_torus : kept (unlines (codes "x = 1, y = 1, rule = B3/S23:T100,100" ∷ codes "o!" ∷ [])) ≡ Err BadRule
unfolding lines_after line_kind rule_part header_form header_rule read_rule items_after row_after
    column_after run placed_after checked_after body_cells after_front read_lines kept
rule_torus = refl

rule_nine : kept (unlines (codes "x = 1, y = 1, rule = B9/S" ∷ codes "o!" ∷ [])) ≡ Err BadRule
unfolding lines_after line_kind rule_part header_form header_rule read_rule items_after row_after
    column_after run placed_after checked_after body_cells after_front read_lines kept
rule_nine = refl

no_rule : kept (unlines (codes "x = 1, y = 1, rule = " ∷ codes "o!" ∷ [])) ≡ Err BadRule
unfolding lines_after line_kind rule_part header_form header_rule read_rule items_after row_after
    column_after run placed_after checked_after body_cells after_front read_lines kept
no_rule = refl

many_comments : kept (flat_map (λ (line : List ℕ). line) (replicate 65 (unlines (codes "#C" ∷ [])))
    ++ below (codes "o!")) ≡ Err TextLimit
unfolding lines_after line_kind rule_part header_form header_rule read_rule items_after row_after
    column_after run placed_after checked_after body_cells after_front read_lines kept
many_comments = refl

long_comment : kept (unlines ((codes "#C " ++ replicate 201 97) ∷ []) ++ below (codes "o!")) ≡ Err TextLimit
unfolding lines_after line_kind rule_part header_form header_rule read_rule items_after row_after
    column_after run placed_after checked_after body_cells after_front read_lines kept
long_comment = refl

-- the glider's file, cut
abbrev cut : ℕ → List ℕ
cut k = take k (unlines (codes "x = 3, y = 3" ∷ codes "bo$2bo$3o!" ∷ []))

cut_1 : kept (cut 1) ≡ Err BadHeader
unfolding lines_after line_kind rule_part header_form header_rule read_rule items_after row_after
    column_after run placed_after checked_after body_cells after_front read_lines kept
cut_1 = refl

cut_11 : kept (cut 11) ≡ Err BadHeader
unfolding lines_after line_kind rule_part header_form header_rule read_rule items_after row_after
    column_after run placed_after checked_after body_cells after_front read_lines kept
cut_11 = refl

cut_12 : kept (cut 12) ≡ Err NoEnd
unfolding lines_after line_kind rule_part header_form header_rule read_rule items_after row_after
    column_after run placed_after checked_after body_cells after_front read_lines kept
cut_12 = refl

cut_16 : kept (cut 16) ≡ Err NoEnd
unfolding lines_after line_kind rule_part header_form header_rule read_rule items_after row_after
    column_after run placed_after checked_after body_cells after_front read_lines kept
cut_16 = refl

cut_17 : kept (cut 17) ≡ Err BadCount
unfolding lines_after line_kind rule_part header_form header_rule read_rule items_after row_after
    column_after run placed_after checked_after body_cells after_front read_lines kept
cut_17 = refl

cut_18 : kept (cut 18) ≡ Err NoEnd
unfolding lines_after line_kind rule_part header_form header_rule read_rule items_after row_after
    column_after run placed_after checked_after body_cells after_front read_lines kept
cut_18 = refl

cut_20 : kept (cut 20) ≡ Err NoEnd
unfolding lines_after line_kind rule_part header_form header_rule read_rule items_after row_after
    column_after run placed_after checked_after body_cells after_front read_lines kept
cut_20 = refl

cut_21 : kept (cut 21) ≡ Err BadCount
unfolding lines_after line_kind rule_part header_form header_rule read_rule items_after row_after
    column_after run placed_after checked_after body_cells after_front read_lines kept
cut_21 = refl

cut_22 : kept (cut 22) ≡ Err NoEnd
unfolding lines_after line_kind rule_part header_form header_rule read_rule items_after row_after
    column_after run placed_after checked_after body_cells after_front read_lines kept
cut_22 = refl

-- ---- writing

glider_text : written ((1, 0) ∷ (2, 1) ∷ (0, 2) ∷ (1, 2) ∷ (2, 2) ∷ [])
    ≡ unlines (codes "x = 3, y = 3, rule = B3/S23" ∷ codes "bo$2bo$3o!" ∷ [])
unfolding digits tags_from runs_of laid
glider_text = refl

empty_text : written [] ≡ unlines (codes "x = 0, y = 0, rule = B3/S23" ∷ codes "!" ∷ [])
unfolding digits tags_from runs_of laid
empty_text = refl

full_line : written (every_other 0 35) ≡ unlines (codes "x = 69, y = 1, rule = B3/S23"
    ∷ codes "obobobobobobobobobobobobobobobobobobobobobobobobobobobobobobobobobobo!" ∷ [])
unfolding digits tags_from runs_of laid
full_line = refl

past_line : written (every_other 0 36) ≡ unlines (codes "x = 71, y = 1, rule = B3/S23"
    ∷ codes "obobobobobobobobobobobobobobobobobobobobobobobobobobobobobobobobobobob" ∷ codes "o!" ∷ [])
unfolding digits tags_from runs_of laid
past_line = refl

whole_item : written (every_other 0 35 ++ (79, 0) ∷ []) ≡ unlines (codes "x = 80, y = 1, rule = B3/S23"
    ∷ codes "obobobobobobobobobobobobobobobobobobobobobobobobobobobobobobobobobobo" ∷ codes "10bo!" ∷ [])
unfolding digits tags_from runs_of laid
whole_item = refl

-- what is written for the cells that a file places
abbrev rewritten : List ℕ → Result (List ℕ) RleFault
rewritten file =
    elim (cells_in file) as (λ _. Result (List ℕ) RleFault) [ Ok cells ↦ Ok (written cells) | Err fault ↦ Err fault ]

gun : rewritten (below (codes
    "24bo11b$22bobo11b$12b2o6b2o12b2o$11bo3bo4b2o12b2o$2o8bo5bo3b2o14b$2o8bo3bob2o4bobo11b$10bo5bo7bo11b$11bo3bo20b$12b2o!"))
    ≡ Ok (unlines (codes "x = 36, y = 9, rule = B3/S23"
    ∷ codes "24bo$22bobo$12b2o6b2o12b2o$11bo3bo4b2o12b2o$2o8bo5bo3b2o$2o8bo3bob2o4b"
    ∷ codes "obo$10bo5bo7bo$11bo3bo$12b2o!" ∷ []))
unfolding lines_after line_kind rule_part header_form header_rule read_rule items_after row_after
    column_after run placed_after checked_after body_cells after_front read_lines kept digits tags_from runs_of laid
gun = refl
