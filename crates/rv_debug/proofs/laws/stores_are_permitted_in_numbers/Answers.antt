-- This file proves the theorem `stores_are_permitted_in_numbers`, which states in numbers which bytes of the memory S may store on a hart, and so to
-- which bytes a measure may write.
use Rattle.rv_debug.proofs.Permissions.{store_permission}
use Rattle.rv_debug.proofs.laws.stores_are_permitted_in_numbers.Goals as goal

-- proves the law (`StorePermissionLaw`) that is the contract of `stores_are_permitted_in_numbers`
pub returns : goal.returns
returns c = store_permission
