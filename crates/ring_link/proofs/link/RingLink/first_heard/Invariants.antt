use Rattle.std.proofs.Common.{◌≡◌, ℕ, List, take}
use Rattle.std.specs.Prelude.{find, None}
use Rattle.ring_link.specs.Silence.{Event, is_next, is_suspected_after, is_silent, link_after}
use Rattle.ring_link.proofs.link.RingLink.first_heard.Given as goal

abbrev pub invariant-loop-node : goal.invariant-loop-node
invariant-loop-node l = record {
  counted : (suspect : ℕ) (events : List Event) → l.self ≡ link_after suspect events → find (is_next (is_suspected_after suspect events) l.own) (take l.node-index l.nodes) ≡ None;
  kept : find (is_next (is_silent l.self) l.own) (take l.node-index l.nodes) ≡ None;
}
