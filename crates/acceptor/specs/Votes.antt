-- Whether an acceptor takes a vote.
use Rattle.std.specs.Prelude.{ℕ, nat_le, ◌&&◌, Bool}
use Rattle.mrp_types.specs.declared.id.RingId.{RingId}
use Rattle.vote_state.specs.State.{State, promise_at, trim_at}

-- the ballot isn't below its promise, and the instance isn't below its trim
abbrev pub takes_votes : State → RingId → ℕ → ℕ → Bool
takes_votes durable ring ballot lo = nat_le (promise_at durable ring) ballot && nat_le (trim_at durable ring) lo
