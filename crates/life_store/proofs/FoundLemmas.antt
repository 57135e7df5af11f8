-- What a connection over files that were just opened shows of them.
use Rattle.std.proofs.Common.{◌≡◌, ℕ, ap, subst}
use Rattle.sqlite_disk.specs.declared.Disk.{Ghosts}
use Rattle.sqlite_wal.specs.Recovery.{Image}
use Rattle.sqlite_trees.specs.Tree.{Trees}
use Rattle.sqlite_catalog.specs.Listing.{IsSound}
use Rattle.sqlite_store.specs.declared.store.FileStore.{FileStore}
use Rattle.sqlite.specs.Effect.{Database}
use Rattle.sqlite.specs.State.{IsLive, Opens}
use Rattle.sqlite.specs.Files.{AreFoundIn, file_state}
use Rattle.sqlite.specs.Held.{Held}
use Rattle.life_store.specs.Opening.{ShowsFound}
use Rattle.life_store.specs.Tables.{tables_of}

pub shows_found : {D : Type 0} {g : Ghosts D} (conn : Held (FileStore D g)) (most : ℕ) (image : Image)
    → Opens (file_state conn) × IsLive (file_state conn) → AreFoundIn image (file_state conn).committed.trees
    → ShowsFound image (record { tables = tables_of (file_state conn); capacity = most; store = conn.store })
shows_found conn most image opened reads =
    let s = file_state conn in
    let same : s.now.trees ≡ s.committed.trees = ap (λ (d : Database). d.trees) opened.0.clean in
    record {
      found = reads;
      sound = subst (IsSound s.now.schema) same (opened.1 opened.0.is_open).0;
      committed = opened.0.autocommit;
      layout = ap (λ (t : Trees). t 0) same;
      deposits = ap (λ (t : Trees). t 1) same;
      censuses = ap (λ (t : Trees). t 3) same;
      census_rows = ap (λ (t : Trees). t 5) same;
      census_flags = ap (λ (t : Trees). t 7) same;
    }
