use Rattle.std.proofs.Common.{◌≡◌, []}
use Rattle.std.specs.Prelude.{◌↔◌}
use Rattle.sqlite.specs.Held.{state}
use Rattle.life_store.specs.OpeningState.{column_of}
use Rattle.life_store.proofs.StatementTexts.{version_text}
use Rattle.life_store.proofs.Texts.{version_asks}
use Rattle.life_store.proofs.CrashLemmas.{asks_nothing}
use Rattle.life_store.proofs.KeepLemmas.{seen_same, query_tells, open_when_shown}
use Rattle.life_store.proofs.OpenLemmas.{version_plain, finds_own}
use Rattle.life_store.proofs.opening.versions.Goals as goal

pub returns : goal.returns
returns g c =
    let old = state g.S.Store c.args.conn.now in
    let new = state g.S.Store c.query.new.conn in
    record {
      same =
          λ schema own known healthy is. seen_same version_text [] schema old new
          (version_plain schema own known) c.query.result c.query.ensures.shown c.query.ensures.refused healthy is;
      tells = λ schema own versions known healthy have.
          query_tells new version_text [] old (λ rows. (rows ≡ column_of own) ↔ (versions ≡ own)) c.query.result
          (λ rows. finds_own old new schema own versions rows known have) c.query.ensures.shown healthy;
      up = λ clean. open_when_shown version_text [] old new c.query.result (c.query.ensures.shown clean);
      clean = c.query.ensures.clean;
      mode = c.query.ensures.mode;
      crash =
          asks_nothing g.S.Store c.args.conn.now c.query.new.conn version_text [] version_asks
          c.query.ensures.withstands.crash;
    }
