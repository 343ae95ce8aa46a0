use Rattle.std.proofs.Common.{[]}
use Rattle.state_laws.proofs.Bytes.{sound_from, sound_empty, sound_read, sound_bytes, sound_short}
use Rattle.state_laws.proofs.sound_replicas_stay_sound.Goals as goal

pub returns-clause-first : goal.returns-clause-first
returns-clause-first c = sound_empty

pub returns-clause-batch : goal.returns-clause-batch
returns-clause-batch c = λ p r es logs given is. sound_from p 0 (record { replica = r; replies = [] }) es logs given is

pub returns-clause-read : goal.returns-clause-read
returns-clause-read c = sound_read

pub returns-clause-bytes : goal.returns-clause-bytes
returns-clause-bytes c = sound_bytes

pub returns-clause-short : goal.returns-clause-short
returns-clause-short c = sound_short
