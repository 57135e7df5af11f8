use Rattle.std.proofs.Common.{◌≡◌, ℕ, ◌+◌, ◌-◌, ◌<◌, cond, get_or, sym, ap, ◌∙◌, arith}
use Rattle.std.proofs.lemmas.Bool.{lt-ltb}
use Rattle.life_core.proofs.packed.row_lanes.words_before.Goals as goal

pub returns : goal.returns
returns c j lt =
    let words = c.args.words.now in
    let k = c.args.k in
    let before : k - 1 + j ≡ k + j - 1 = omega arith in
    let later : 0 < k + j = omega arith in
    c.lanes_at.ensures j lt ∙ ap (λ (n : ℕ). get_or words n 0) before
    ∙ ap (λ b. cond b (get_or words (k + j - 1) 0) 0) (sym (lt-ltb 0 (k + j) later))
