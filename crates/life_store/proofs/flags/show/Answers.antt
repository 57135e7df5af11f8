use Rattle.std.proofs.Common.{◌≡◌, rules, option_map}
use Rattle.sqlite_value.specs.declared.value.Value.TheVariants.{Int}
use Rattle.sqlite_value.specs.Value.{owned}
use Rattle.sqlite.specs.Held.{state}
use Rattle.life_store.specs.ReadingState.{ShowsFlag}
use Rattle.life_store.specs.Kept.{numbered}
use Rattle.life_store.proofs.StatementTexts.{flag_text}
use Rattle.life_store.proofs.Texts.{flag_is, flag_asks}
use Rattle.life_store.proofs.KeepLemmas.{tells_held_at}
use Rattle.life_store.proofs.StatementLemmas.{looks_by}
use Rattle.life_store.proofs.CensusQueries.{shows_flag}
use Rattle.life_store.proofs.flags.show.Goals as goal

pub returns : goal.returns
returns g c =
    let old = state g.S.Store c.args.conn.now in
    let new = state g.S.Store c.query.new.conn in
    let it = c.query.ensures in
    let id : owned c.sql_integer.result ≡ Int c.args.id = search rules in
    record {
      queries =
          looks_by g.S.Store c.args.conn.now c.query.new.conn flag_text _ flag_is.plain flag_asks
          c.query.result it.clean it.shown it.refused it.withstands;
      tells =
          tells_held_at flag_text c.args.id old new
          (λ n k rows. ShowsFlag (option_map (λ t. t.steady) (numbered k.censuses n)) rows)
          (λ n k rows holds. shows_flag old new k rows holds n) c.query.result (λ clean. rw id at (it.shown clean));
    }
