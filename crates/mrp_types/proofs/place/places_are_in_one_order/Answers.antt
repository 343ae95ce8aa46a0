use Rattle.mrp_types.proofs.PlaceOrder.{in_one_order}
use Rattle.mrp_types.proofs.place.places_are_in_one_order.Goals as goal

pub returns : goal.returns
returns c = in_one_order
