-- What a call leaves of an attempt stands for what the protocol's rule leaves.
use Rattle.std.proofs.Common.{arith, ◌≡◌, ◌∙◌, ℕ, ◌+◌, min, Bool, true, false, if◌then◌else◌, List, ◌∷◌, [], ◌++◌, refl, Some}
use Rattle.mrp_types.specs.declared.id.NodeId.{NodeId}
use Rattle.mrp_types.specs.declared.id.RingId.{RingId}
use Rattle.mrp_config.specs.Config.{Config}
use Rattle.protocol.specs.Node.{View, Service, Attempt}
use Rattle.protocol.specs.Recovery.{epoch_of, own_tuple}
use Rattle.recovery.specs.Attempts.{Trying, quiet, fresh, with_answers, with_part, begun, heard, is_heard, parted, is_parted, gone, is_gone}
use Rattle.recovery.specs.Steps.{StandsFor, left_of}

pub begun_stands : (config : Config) (service : Service) (view : View) (number : ℕ) (r : Trying) → r ≡ begun config service.partition view.id (epoch_of view) number (own_tuple view service) →
    StandsFor config service view r r.attempt
begun_stands config service view number r same = rw same (record {
  own = refl;
  epoch = refl;
  replicas = refl;
  needed = refl;
  limit = refl;
  number = refl;
  ticks = none (config.attempt + 1);
  answers = refl;
  choice = refl;
})
  where
    none : (n : ℕ) → 0 ≡ min 0 n
    none n = grind arith

-- another attempt that differs in its answers and its choice alone
abbrev Differs : Trying → Trying → Type 0
Differs r s = (s.own ≡ r.own) × (s.epoch ≡ r.epoch) × (s.replicas ≡ r.replicas) × (s.needed ≡ r.needed) × (s.limit ≡ r.limit) × (s.attempt.number ≡ r.attempt.number) × (s.attempt.ticks ≡ r.attempt.ticks)

still_stands : (config : Config) (service : Service) (view : View) (r s : Trying) (attempt : Attempt) → StandsFor config service view r attempt → Differs r s → StandsFor config service view s (left_of s attempt)
still_stands config service view r s attempt stands same = record {
  own = same.0 ∙ stands.own;
  epoch = same.1 ∙ stands.epoch;
  replicas = same.2 ∙ stands.replicas;
  needed = same.3 ∙ stands.needed;
  limit = same.4 ∙ stands.limit;
  number = same.5 ∙ stands.number;
  ticks = same.6 ∙ stands.ticks;
  answers = refl;
  choice = refl;
}

either : (r s : Trying) (t : Bool) → Differs r s → Differs r (if t then s else quiet r)
either r s true differs = differs
either r s false differs = (refl, refl, refl, refl, refl, refl, refl)

pub heard_stands : (config : Config) (service : Service) (view : View) (r : Trying) (attempt : Attempt) (from : NodeId) (epoch number : ℕ) (tuple : List (RingId × ℕ)) →
    StandsFor config service view r attempt → StandsFor config service view (heard from epoch number tuple r) (left_of (heard from epoch number tuple r) attempt)
heard_stands config service view r attempt from epoch number tuple stands =
    still_stands config service view r (heard from epoch number tuple r) attempt stands
    (either r (with_answers (r.attempt.answers ++ (from, tuple) ∷ []) r) (is_heard from epoch number r) (refl, refl, refl, refl, refl, refl, refl))

pub parted_stands : (config : Config) (service : Service) (view : View) (r : Trying) (attempt : Attempt) (from : NodeId) (epoch number : ℕ) (tuple : List (RingId × ℕ)) (offset total : ℕ) (bytes : List ℕ) →
    StandsFor config service view r attempt → StandsFor config service view (parted from epoch number tuple offset total bytes r) (left_of (parted from epoch number tuple offset total bytes r) attempt)
parted_stands config service view r attempt from epoch number tuple offset total bytes stands =
    still_stands config service view r (parted from epoch number tuple offset total bytes r) attempt stands
    (either r (with_part total bytes r) (is_parted from epoch number tuple offset r) (refl, refl, refl, refl, refl, refl, refl))

pub gone_stands : (config : Config) (service : Service) (view : View) (r : Trying) (attempt : Attempt) (from : NodeId) (epoch number : ℕ) (asked newer : List (RingId × ℕ)) →
    StandsFor config service view r attempt → StandsFor config service view (gone from epoch number asked newer r) (left_of (gone from epoch number asked newer r) attempt)
gone_stands config service view r attempt from epoch number asked newer stands =
    still_stands config service view r (gone from epoch number asked newer r) attempt stands
    (either r (record r { attempt = record r.attempt { choice = Some (fresh (from, newer)) }; whole = false; changed = true }) (is_gone from epoch number asked newer r) (refl, refl, refl, refl, refl, refl, refl))
