-- The walk on tables written out: what each row gives, by computing.
use Rattle.std.proofs.Common.{◌≡◌, refl, pos, negsuc, [], ◌∷◌, codes, Some, None, true, false, Ok, Err}
use Rattle.toml.specs.Data.{string, integer, boolean, array, no_items, item, no_members, member}
use Rattle.config_walk.specs.declared.fault.ConfigFault.TheVariants.{Missing, WrongKind, OutOfRange, Repeated, UnknownId, UnknownName}
use Rattle.std.specs.Net.Reader.{read_number}
use Rattle.config_walk.specs.Address.{is_address, past_ip, past_number}
use Rattle.config_walk.specs.Values.{number_of, seats_of, hex_of, all_known, tables_of}
use Rattle.mrp_config.specs.Walk.{has_quorums}

addresses_are_read : is_address (codes "127.0.0.1:7100") ≡ true
unfolding past_ip past_number read_number
addresses_are_read = refl

port_of_zero : is_address (codes "127.0.0.1:0") ≡ false
unfolding past_ip past_number read_number
port_of_zero = refl

leading_zero : is_address (codes "127.0.00.1:1") ≡ false
unfolding past_ip past_number read_number
leading_zero = refl

part_too_great : is_address (codes "127.0.0.256:1") ≡ false
unfolding past_ip past_number read_number
part_too_great = refl

port_too_great : is_address (codes "1.2.3.4:65536") ≡ false
unfolding past_ip past_number read_number
port_too_great = refl

part_of_no_digit : is_address (codes "1..3.4:1") ≡ false
unfolding past_ip past_number read_number
part_of_no_digit = refl

more_behind : is_address (codes "1.2.3.4:5x") ≡ false
unfolding past_ip past_number read_number
more_behind = refl

no_port : is_address (codes "1.2.3.4") ≡ false
unfolding past_ip past_number read_number
no_port = refl

m_is_missing : number_of (codes "m") 1 1024 None ≡ Err (Missing (codes "m"))
unfolding number_of
m_is_missing = refl

m_of_zero : number_of (codes "m") 1 1024 (Some (integer (pos 0))) ≡ Err (OutOfRange (codes "m"))
unfolding number_of
m_of_zero = refl

m_below_zero : number_of (codes "m") 1 1024 (Some (integer (negsuc 0))) ≡ Err (OutOfRange (codes "m"))
unfolding number_of
m_below_zero = refl

m_as_text : number_of (codes "m") 1 1024 (Some (string (codes "1"))) ≡ Err (WrongKind (codes "m"))
unfolding number_of
m_as_text = refl

kind_before_range : seats_of (codes "ring.acceptors") [] (0 ∷ []) (Some (array (item (integer (pos 99)) (item (boolean true) no_items)))) ≡ Err (WrongKind (codes "ring.acceptors"))
unfolding seats_of
kind_before_range = refl

range_before_repeat : seats_of (codes "ring.acceptors") [] (0 ∷ []) (Some (array (item (integer (pos 0)) (item (integer (pos 0)) (item (integer (pos 32)) no_items))))) ≡ Err (OutOfRange (codes "ring.acceptors"))
unfolding seats_of
range_before_repeat = refl

repeat_before_unknown : seats_of (codes "ring.acceptors") [] (0 ∷ []) (Some (array (item (integer (pos 5)) (item (integer (pos 5)) no_items)))) ≡ Err (Repeated (codes "ring.acceptors") 5)
unfolding seats_of
repeat_before_unknown = refl

unknown_node : seats_of (codes "ring.acceptors") [] (0 ∷ []) (Some (array (item (integer (pos 5)) no_items))) ≡ Err (UnknownId (codes "ring.acceptors") 5)
unfolding seats_of
unknown_node = refl

no_acceptor : seats_of (codes "ring.acceptors") [] (0 ∷ []) (Some (array no_items)) ≡ Err (OutOfRange (codes "ring.acceptors"))
unfolding seats_of
no_acceptor = refl

odd_text : hex_of (codes "partition.to") (Some (string (codes "6"))) ≡ Err (OutOfRange (codes "partition.to"))
unfolding hex_of
odd_text = refl

colour_is_unknown : all_known (codes "ring.") (codes "id" ∷ []) (member (codes "colour") (integer (pos 1)) (member (codes "id") (integer (pos 1)) no_members)) ≡ Err (UnknownName (codes "ring.colour"))
colour_is_unknown = refl

clients_may_lack : tables_of (codes "client") 0 256 None ≡ Ok []
unfolding tables_of
clients_may_lack = refl

nodes_may_not : tables_of (codes "node") 1 32 (Some (array no_items)) ≡ Err (OutOfRange (codes "node"))
unfolding tables_of
nodes_may_not = refl

quorums_of_three : has_quorums 3 2 2 ≡ true
quorums_of_three = refl

quorums_that_miss : has_quorums 3 1 2 ≡ false
quorums_that_miss = refl
