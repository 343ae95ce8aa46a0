-- The laws that join lists of members and tests.
use Rattle.quorums.proofs.Joining.{in_to_has, has_to_in, count_list, length_members, member_passes, passes_member, members_different}
use Rattle.quorums.proofs.lists_are_tests.Goals as goal

pub returns-clause-count : goal.returns-clause-count
returns-clause-count c = count_list

pub returns-clause-same : goal.returns-clause-same
returns-clause-same c = λ xs m. (in_to_has xs m, has_to_in xs m)

pub returns-clause-members : goal.returns-clause-members
returns-clause-members c = λ n g. record { below = λ m h. (member_passes n g m h).0; different = members_different n g }

pub returns-clause-length : goal.returns-clause-length
returns-clause-length c = length_members

pub returns-clause-back : goal.returns-clause-back
returns-clause-back c = λ n g m. (member_passes n g m, λ h. passes_member n g m h.0 h.1)
