-- What every run keeps of replies in frames, of the parts that clients hold, and of their answers.
use Rattle.std.specs.Prelude.{◌≡◌, ◌⊎◌, ℕ, List, [], ◌∷◌, Option, Some, None, Ok}
use Rattle.std.specs.List.{AllByRecursion}
use Rattle.mrp_types.specs.declared.id.PartitionId.{PartitionId}
use Rattle.mrp_types.specs.declared.id.RingId.{RingId}
use Rattle.mrp_types.specs.Book.{Learning}
use Rattle.command_codec.specs.declared.command.Command.{Command}
use Rattle.command_codec.specs.declared.reply.Reply.{Reply}
use Rattle.command_codec.specs.Replies.{reply_bytes, joined}
use Rattle.mrp_config.specs.declared.tables.PartitionTable.{PartitionTable}
use Rattle.mrp_config.specs.Config.{Config}
use Rattle.mrp_config.specs.Routing.{concerned_of, route_of}
use Rattle.frames.specs.declared.body.Body.{Body}
use Rattle.frames.specs.declared.body.Body.TheVariants as bodies
use Rattle.frames.specs.declared.sent.Sent.{Sent}
use Rattle.plain_model.specs.Lines.{learnings}
use Rattle.protocol.specs.Lines.{Line, Answer}
use Rattle.protocol.specs.Client.{Asked}
use Rattle.bare_world.specs.Worlds.{World}
use Rattle.answer_laws.specs.Answering.{RepliesTo, AreReplies, IsReplyOf}
use Rattle.line_rules.specs.Rules.{F5}

-- ---- frames

-- a Reply frame carries what its partition replies by the book
abbrev pub BodyReplies : Config → List Learning → Body → Type 0
BodyReplies c known (bodies.Reply client seq partition bytes) = IsReplyOf c known client seq partition bytes
BodyReplies c known other = Unit {0}

abbrev pub RepliesOfFold : Config → World → Type 0
RepliesOfFold c w = AllByRecursion (λ (s : Sent). BodyReplies c (learnings w.lines) s.frame.body) w.frames

-- ---- clients

-- the parts are those of some of the partitions, in their order, one of each at most
abbrev pub AreParts : (PartitionTable → Reply → Type 0) → List PartitionTable → List (PartitionId × Reply) → Type 0
AreParts Is [] parts = parts ≡ []
AreParts Is (p ∷ ps) parts = AreParts Is ps parts ⊎ ((reply : Reply) × (rest : List (PartitionId × Reply)) × (parts ≡ (p.id, reply) ∷ rest) × Is p reply × AreParts Is ps rest)

-- what a client holds for its command is what concerned partitions reply to its number
abbrev pub HoldsParts : Config → List Learning → ℕ → Option Asked → Type 0
HoldsParts c known client None = Unit {0}
HoldsParts c known client (Some a) = AreParts (RepliesTo c known (record { 0 = client }) a.seq) (concerned_of a.command c.partitions) a.parts

-- ---- answers

-- An answer: the client took this command under the number, a ring orders it, each concerned partition replies, and the bytes are
-- these replies, joined.
pub record IsAnswered (c : Config) (known : List Learning) (asked : ℕ → ℕ → Option Command) (client seq : ℕ) (bytes : List ℕ) : Type 0 where
  pub command : Command
  pub told : asked client seq ≡ Some command
  pub ring : RingId
  pub route : route_of (concerned_of command c.partitions) ≡ Ok ring
  pub replies : List Reply
  pub each : AreReplies c known (record { 0 = client }) seq (concerned_of command c.partitions) replies
  pub spelled : bytes ≡ reply_bytes (joined replies)

abbrev pub LineAnswers : Config → List Learning → (ℕ → ℕ → Option Command) → Line → Type 0
LineAnswers c known asked (Answer client seq bytes) = IsAnswered c known asked client.0 seq bytes
LineAnswers c known asked other = Unit {0}

-- each answer line keeps its rule by the lines before it, the latest first
abbrev pub AreAnswers : Config → List Line → Type 0
AreAnswers c [] = Unit {0}
AreAnswers c (l ∷ before) = F5 c before l × AreAnswers c before

-- the parts of all clients, and all answers so far, by the book as it is now
pub record KeepsAnswers (c : Config) (asked : ℕ → ℕ → Option Command) (w : World) : Type 0 where
  pub parts : (k : ℕ) → HoldsParts c (learnings w.lines) k (w.clients k).asked
  pub lines : AllByRecursion (LineAnswers c (learnings w.lines) asked) w.lines
