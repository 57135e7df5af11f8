-- The tally after one more set.
use Rattle.std.specs.Prelude.{◌≡◌, ℕ, ◌+◌, ◌<◌, List, [], ◌∷◌, ◌++◌, length, take, count_by, is_none, Option, Some}
use Rattle.std.specs.Prelude.{None}
use Rattle.std.proofs.Common.{ap, ◌∙◌, get_or, append-nil}
use Rattle.std.specs.List.{filter_map, cons_option}
use Rattle.std.proofs.lemmas.List.{take_more}
use Rattle.std.proofs.lemmas.List.Elements.{filter_map-append}
use Rattle.std.proofs.lemmas.List.Sums.{count_by_more_yes, count_by_more_no}
use Rattle.life_core.specs.Pattern.{Cells}
use Rattle.life_census.specs.Counting.{occurrences_of}
use Rattle.life_census.specs.CountingState.{one_more}
use Rattle.life_census.proofs.CountingLaws.{counts_push}

module _ (code : Cells → Option (List ℕ)) (Ps : List Cells) (i : ℕ) (d : Cells) (low : i < length Ps) where
  more : filter_map code (take (i + 1) Ps) ≡ filter_map code (take i Ps) ++ cons_option (code (get_or Ps i d)) []
  more = ap (filter_map code) (take_more Ps i d low) ∙ filter_map-append code (take i Ps) (get_or Ps i d ∷ [])

  pub with_code : (t : List ℕ) → code (get_or Ps i d) ≡ Some t
      → occurrences_of (filter_map code (take (i + 1) Ps)) ≡ one_more (occurrences_of (filter_map code (take i Ps))) t
  with_code t is =
      ap occurrences_of (more ∙ ap (λ o. filter_map code (take i Ps) ++ cons_option o []) is)
      ∙ counts_push (filter_map code (take i Ps)) t

  pub without_code : code (get_or Ps i d) ≡ None
      → occurrences_of (filter_map code (take (i + 1) Ps)) ≡ occurrences_of (filter_map code (take i Ps))
  without_code is =
      ap occurrences_of (more ∙ ap (λ o. filter_map code (take i Ps) ++ cons_option o []) is
      ∙ append-nil (filter_map code (take i Ps)))

  pub resolved : (t : List ℕ) → code (get_or Ps i d) ≡ Some t
      → count_by (λ P. is_none (code P)) (take (i + 1) Ps) ≡ count_by (λ P. is_none (code P)) (take i Ps)
  resolved t is = count_by_more_no (λ P. is_none (code P)) Ps i d low (ap is_none is)

  pub unresolved : code (get_or Ps i d) ≡ None
      → count_by (λ P. is_none (code P)) (take (i + 1) Ps) ≡ count_by (λ P. is_none (code P)) (take i Ps) + 1
  unresolved is = count_by_more_yes (λ P. is_none (code P)) Ps i d low (ap is_none is)
