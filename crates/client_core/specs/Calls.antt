-- What the calls of a core answer.
use Rattle.std.specs.Prelude.{◌≡◌, List, [], ◌∷◌, Option, Some, None}
use Rattle.mrp_types.specs.declared.id.ClientId.{ClientId}
use Rattle.mrp_types.specs.declared.id.Party.TheVariants.{Node}
use Rattle.command_codec.specs.declared.fault.CodecFault.{CodecFault}
use Rattle.frames.specs.declared.sent.Sent.{Sent}
use Rattle.mrp_config.specs.Config.{Config}
use Rattle.protocol.specs.Client.{ClientView, ClientEffects}
use Rattle.protocol.specs.Lines.{Line}
use Rattle.protocol.specs.Lines.{Answer as answer_line, Busy as busy_line}
use Rattle.client_core.specs.declared.asking.Submit.{Submit}
use Rattle.client_core.specs.declared.asking.Answer.{Answer}
use Rattle.client_core.specs.declared.asking.AskFault.{AskFault}
use Rattle.client_core.specs.declared.asking.AskFault.TheVariants as ask
use Rattle.client_core.specs.declared.asking.ReplyFault.{ReplyFault}
use Rattle.client_core.specs.declared.asking.ReplyFault.TheVariants as reply
use Rattle.client_core.specs.Clients.{Core, Cause, IsBusy, HasNoGroup, IsLast, StandsFor}

-- A call makes of a core what a rule of the protocol makes of each client that the core stands for: the client after it, and these
-- frames and lines.
pub record Follows (old new : Core) (rule : Config → ClientView → ClientEffects) (sends : List Sent) (prints : List Line) : Type 0 where
  pub config : new.config ≡ old.config
  pub client : (c : ClientView) → StandsFor old c → StandsFor new (rule old.config c).client
  pub frames : (c : ClientView) → StandsFor old c → (rule old.config c).frames ≡ sends
  pub lines : (c : ClientView) → StandsFor old c → (rule old.config c).lines ≡ prints

abbrev pub sent_of : Submit → Sent
sent_of submit = record { to = Node submit.to; frame = submit.frame }

abbrev pub sent_in : Option Submit → List Sent
sent_in None = []
sent_in (Some submit) = sent_of submit ∷ []

abbrev pub answer_in : ClientId → Option Answer → List Line
answer_in id None = []
answer_in id (Some answer) = answer_line id answer.seq answer.reply ∷ []

-- the cause that a refusal tells; want of memory comes where there is none
abbrev pub cause_told : AskFault → Option Cause
cause_told (ask.Busy seq) = Some (IsBusy seq)
cause_told ask.NoGroup = Some HasNoGroup
cause_told ask.SeqLimit = Some IsLast
cause_told ask.Memory = None

-- what a client prints that is refused to ask
abbrev pub busy_in : ClientId → AskFault → List Line
busy_in id (ask.Busy seq) = busy_line id seq ∷ []
busy_in id other = []

-- the fault of the bytes that a refusal tells; want of memory tells nothing of them
abbrev pub TellsFault : ReplyFault → Option CodecFault → Type 0
TellsFault (reply.Codec fault) found = found ≡ Some fault
TellsFault reply.Memory found = Unit {0}
