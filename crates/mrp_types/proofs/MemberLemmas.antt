-- The empty set of nodes.
use Rattle.std.proofs.Common.{◌≡◌, ℕ, zero, suc, false, replicate, refl}
use Rattle.mrp_types.specs.Members.{is_member}

pub none_is : (n node : ℕ) → is_member (replicate n false) node ≡ false
none_is zero node = refl
none_is (suc n) zero = refl
none_is (suc n) (suc node) = none_is n node
