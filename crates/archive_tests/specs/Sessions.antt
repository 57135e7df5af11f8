-- Connections whose streams are known.
use Rattle.std.specs.Prelude.{ℕ, List, map, drop, None, Some}
use Rattle.std.specs.Borrow.{Bor}
use Rattle.life_archive.specs.Session.{Traffic}

-- connections that will send these streams in turn, after this many failed connections
abbrev pub sends : List (List ℕ) → ℕ → Traffic
sends streams failures = record { to_come = Some streams; put = None; failures = failures }

-- the streams from this index on; index 0 gives all of them
abbrev pub streams_from : ℕ → List (Bor (List ℕ)) → List (List ℕ)
streams_from index streams = map (λ s. s.now) (drop index streams)
