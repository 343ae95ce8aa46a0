-- Frames of the world have a spelling.
use Rattle.std.proofs.Common.{lit≤, arith, ◌≡◌, ◌<◌, ◌≤◌, ℕ, ◌+◌, ◌^◌, List, [], ◌∷◌, length, refl, ap}
use Rattle.mrp_types.specs.declared.id.NodeId.{NodeId}
use Rattle.mrp_types.specs.declared.id.ClientId.{ClientId}
use Rattle.mrp_types.specs.declared.id.Party.TheVariants.{Node, Client}
use Rattle.mrp_types.specs.declared.id.TheConstants.{END}
use Rattle.mrp_types.specs.declared.value.Value.{Value}
use Rattle.mrp_types.specs.declared.value.Value.TheVariants.{Batch}
use Rattle.mrp_types.specs.declared.value.Entry.{Entry}
use Rattle.mrp_types.specs.Entries.{IsEntry}
use Rattle.command_codec.specs.declared.command.Command.{Command}
use Rattle.command_codec.specs.Grammar.{batch_at}
use Rattle.command_codec.specs.Parts.{IsSpelled, was_read}
use Rattle.command_codec.specs.Spelling.{command_bytes, batch_bytes, AreEntries}
use Rattle.command_codec.specs.Valid.{IsCommand}
use Rattle.command_codec.proofs.BatchLaws.{batch_law}
use Rattle.command_codec.proofs.Combined.{whole_again}
use Rattle.command_codec.proofs.PartLaws.{value_short}
use Rattle.command_codec.proofs.Sizes.{short_command, length-batch_of_one}
use Rattle.mrp_config.specs.declared.tables.RingTable.{RingTable}
use Rattle.frames.specs.declared.body.Body.TheVariants.{Submit, Accept, Decide}
use Rattle.frames.specs.Valid.{IsFrame}
use Rattle.frames.proofs.Lengths.{frame_length, body_length}
use Rattle.world.specs.Ring.{IsRing}

-- ---- proposals and decisions

pub valid_accept : (ring : RingTable) (node : NodeId) (n inst mask : ℕ) (value : Value) → IsRing ring → node.0 < 32 → n ≡ length ring.acceptors → inst < END → IsSpelled value →
    IsFrame (record { from = Node node; body = Accept ring.id n inst (inst + 1) mask value })
valid_accept ring node n inst mask value is low same room spelled =
    let body = Accept ring.id n inst (inst + 1) mask value in
    record {
      from = low;
      body = (is.id, omega (arith, is.few, same), (omega arith, omega (arith, room)), record { spelled = spelled; alone = λ _. refl });
      short = omega (arith, frame_length (record { from = Node node; body = body }), body_length body, value_short value spelled);
    }

pub valid_decide : (ring : RingTable) (node : NodeId) (inst left : ℕ) (value : Value) → IsRing ring → node.0 < 32 → inst < END → IsSpelled value →
    IsFrame (record { from = Node node; body = Decide ring.id inst (inst + 1) left value })
valid_decide ring node inst left value is low room spelled =
    let body = Decide ring.id inst (inst + 1) left value in
    record {
      from = low;
      body = (is.id, (omega arith, omega (arith, room)), record { spelled = spelled; alone = λ _. refl });
      short = omega (arith, frame_length (record { from = Node node; body = body }), body_length body, value_short value spelled);
    }

-- ---- commands

pub valid_submit : (ring : RingTable) (client : ClientId) (seq : ℕ) (command : Command) (bytes : List ℕ) → IsRing ring → 1 ≤ seq → seq < 2 ^ 63 → IsCommand command →
    bytes ≡ command_bytes command →
    IsFrame (record { from = Client client; body = Submit ring.id 0 client seq bytes })
valid_submit ring client seq command bytes is some fits spelled same =
    let body = Submit ring.id 0 client seq bytes in
    let short : length bytes ≤ 4608 = rw same (short_command command spelled) in
    record {
      from = refl;
      body = (is.id, lit≤ tt, some, fits, short);
      short = omega (arith, frame_length (record { from = Client client; body = body }), body_length body, short);
    }

-- a batch of one entry is a value that has a spelling
pub spelled_batch : (entry : Entry) → IsEntry entry → IsSpelled (Batch (batch_bytes (entry ∷ [])))
spelled_batch entry is =
    let are : AreEntries (entry ∷ []) = record { some = omega arith; few = omega arith; each = (is, tt) } in (
      omega (arith, length-batch_of_one entry, is.short),
      ap was_read (whole_again (List Entry) batch_at batch_bytes AreEntries batch_law (entry ∷ []) are),
    )
