use Rattle.std.proofs.Common.{◌≡◌, ◌+◌, ℕ, true, refl, subst, arith}
use Rattle.sqlite_trees.specs.declared.memory.MemStore.{MemStore}
use Rattle.sqlite_trees.proofs.Doubt.{no_doubt}
use Rattle.life_store.specs.Tables.{ArchiveView}
use Rattle.life_store.proofs.archive.Archive+MemStore.law_of_memory.Goals as goal

none_more : (n : ℕ) → n ≡ 0 → 0 + n ≡ 0
none_more n is = omega (arith, is)

pub returns-clause-faults : goal.returns-clause-faults
returns-clause-faults c =
    subst (λ (s : ArchiveView MemStore). s.tables.faults ≡ 0) c.self.view_is (none_more _ (no_doubt true refl))
