-- The first events of an ordinary run on nine nodes, and the answers to its ten commands.
use Rattle.std.specs.Prelude.{List, [], ◌∷◌}
use Rattle.command_codec.specs.declared.command.Command.TheVariants as command
use Rattle.protocol.specs.Lines.{Line}
use Rattle.protocol.specs.Lines as line
use Rattle.world_model.specs.Events.{ScheduleEvent}
use Rattle.world_model.specs.Events as event
use Rattle.protocol_rows.specs.Words.{client, log}

abbrev pub schedule : List ScheduleEvent
schedule =
    event.Flow 1000 ∷
    event.TickAll ∷
    event.Flow 1000 ∷
    event.Ask (client 0) (command.Append (log 0) (97 ∷ 98 ∷ [])) ∷
    event.Flow 1000 ∷
    event.TickAll ∷
    event.Flow 1000 ∷
    event.Ask (client 0) (command.Insert (122 ∷ 0 ∷ 1 ∷ []) (49 ∷ [])) ∷
    event.Flow 1000 ∷
    event.TickAll ∷
    event.Flow 1000 ∷
    event.Ask (client 0) (command.Multi (log 0 ∷ log 1 ∷ []) (99 ∷ [])) ∷
    event.Flow 1000 ∷
    event.TickAll ∷
    event.Flow 1000 ∷
    event.Ask (client 0) (command.Scan (97 ∷ []) (123 ∷ [])) ∷
    event.Flow 1000 ∷
    event.TickAll ∷
    event.Flow 1000 ∷
    event.Ask (client 0) (command.Append (log 0) (97 ∷ 98 ∷ [])) ∷
    event.Flow 1000 ∷
    event.TickAll ∷
    event.Flow 1000 ∷
    event.Ask (client 0) (command.Insert (122 ∷ 0 ∷ 5 ∷ []) (49 ∷ [])) ∷
    event.Flow 1000 ∷
    event.TickAll ∷
    event.Flow 1000 ∷
    event.Ask (client 0) (command.Multi (log 0 ∷ log 1 ∷ []) (99 ∷ [])) ∷
    event.Flow 1000 ∷
    event.TickAll ∷
    event.Flow 1000 ∷
    event.Ask (client 0) (command.Scan (97 ∷ []) (123 ∷ [])) ∷
    event.Flow 1000 ∷
    event.TickAll ∷
    event.Flow 1000 ∷
    event.Ask (client 0) (command.Append (log 0) (97 ∷ 98 ∷ [])) ∷
    event.Flow 1000 ∷
    event.TickAll ∷
    event.Flow 1000 ∷
    event.Ask (client 0) (command.Insert (122 ∷ 0 ∷ 9 ∷ []) (49 ∷ [])) ∷
    event.Flow 1000 ∷
    event.TickAll ∷
    event.Flow 1000 ∷
    []

-- Log 0 is of the partition of the keys below 6d, log 1 and the keys 7a.. of the other one. An append is told the position in its
-- log, one to both logs those in log 0 and in log 1; an insert of a new key is done; a scan is told the keys so far.
abbrev pub answers : List Line
answers =
    line.Answer (client 0) 1 (1 ∷ 1 ∷ 0 ∷ 0 ∷ 0 ∷ 0 ∷ 0 ∷ 0 ∷ 0 ∷ 0 ∷ 0 ∷ []) ∷
    line.Answer (client 0) 2 (7 ∷ []) ∷
    line.Answer (client 0) 3 (1 ∷ 2 ∷ 0 ∷ 0 ∷ 0 ∷ 0 ∷ 0 ∷ 0 ∷ 0 ∷ 0 ∷ 1 ∷ 1 ∷ 0 ∷ 0 ∷ 0 ∷ 0 ∷ 0 ∷ 0 ∷ 0 ∷ 0 ∷ []) ∷
    line.Answer (client 0) 4 (8 ∷ 0 ∷ 0 ∷ 1 ∷ 0 ∷ 3 ∷ 122 ∷ 0 ∷ 1 ∷ 0 ∷ 1 ∷ 49 ∷ []) ∷
    line.Answer (client 0) 5 (1 ∷ 1 ∷ 0 ∷ 0 ∷ 0 ∷ 0 ∷ 0 ∷ 0 ∷ 0 ∷ 0 ∷ 2 ∷ []) ∷
    line.Answer (client 0) 6 (7 ∷ []) ∷
    line.Answer (client 0) 7 (1 ∷ 2 ∷ 0 ∷ 0 ∷ 0 ∷ 0 ∷ 0 ∷ 0 ∷ 0 ∷ 0 ∷ 3 ∷ 1 ∷ 0 ∷ 0 ∷ 0 ∷ 0 ∷ 0 ∷ 0 ∷ 0 ∷ 1 ∷ []) ∷
    line.Answer (client 0) 8 (8 ∷ 0 ∷ 0 ∷ 2 ∷ 0 ∷ 3 ∷ 122 ∷ 0 ∷ 1 ∷ 0 ∷ 1 ∷ 49 ∷ 0 ∷ 3 ∷ 122 ∷ 0 ∷ 5 ∷ 0 ∷ 1 ∷ 49 ∷ []) ∷
    line.Answer (client 0) 9 (1 ∷ 1 ∷ 0 ∷ 0 ∷ 0 ∷ 0 ∷ 0 ∷ 0 ∷ 0 ∷ 0 ∷ 4 ∷ []) ∷
    line.Answer (client 0) 10 (7 ∷ []) ∷
    []
