-- The members of a set of addresses after an insertion or a removal.
use Rattle.std.proofs.Common.{◌≡◌, ℕ, ◌==◌, ltb, Bool, true, false, not, cond, ◌&&◌, ◌||◌, List, [], ◌∷◌, filter, refl, sym, ◌∙◌, ap, arith}
use Rattle.std.proofs.lemmas.List.Folds.{list_any-append}
use Rattle.std.proofs.Math.Bool.{and-false}
use Rattle.rv_debug.proofs.Prelude.{is_among, nat_tests, with_address, without_address}

-- an address is in a filtered set if it is in the set and passes the filter
among-filter : (test : ℕ → Bool) (address : ℕ) (addresses : List ℕ)
    → is_among address (filter test addresses) ≡ (test address && is_among address addresses)
among-filter test address [] = sym (and-false (test address))
among-filter test address (first ∷ rest) = with_first (test first) refl (first == address) refl (among-filter test address rest) where
  -- the same law, where `passes` is the result of the test of the first address, and `first_is_address` states whether it is `address`
  with_first : (passes : Bool) → test first ≡ passes → (first_is_address : Bool) → (first == address) ≡ first_is_address
      → is_among address (filter test rest) ≡ (test address && is_among address rest)
      → is_among address (cond passes (first ∷ filter test rest) (filter test rest)) ≡ (test address && (first_is_address || is_among address rest))
  with_first true passes true is_first same_members =
      let first_is_address : first ≡ address = grind arith in
      let address_passes : test address ≡ true = sym (ap test first_is_address) ∙ passes in rw (is_first, address_passes) refl
  with_first true passes false not_first same_members = rw not_first same_members
  with_first false fails true is_first same_members =
      let first_is_address : first ≡ address = grind arith in
      let address_fails : test address ≡ false = sym (ap test first_is_address) ∙ fails in rw address_fails (rw address_fails at same_members)
  with_first false fails false not_first same_members = same_members

-- after an insertion, the members of the set are the inserted address and the previous members
pub among-with : (member address : ℕ) (addresses : List ℕ)
    → is_among member (with_address address addresses) ≡ ((address == member) || is_among member addresses)
among-with member address addresses =
    list_any-append (λ element. element == member) (filter (λ element. ltb element address) addresses)
    (address ∷ filter (λ element. ltb address element) addresses)
    ∙ rw (among-filter (λ element. ltb element address) member addresses, among-filter (λ element. ltb address element) member addresses)
    (joined (is_among member addresses)) where
      -- the parts of the set below and above an address, with the address, have the same members
      joined : (is_member : Bool)
          → ((ltb member address && is_member) || ((address == member) || (ltb address member && is_member))) ≡ ((address == member) || is_member)
      joined is_member = grind (arith, nat_tests)

-- after a removal, the members of the set are the previous members without the removed address
pub among-without : (member address : ℕ) (addresses : List ℕ)
    → is_among member (without_address address addresses) ≡ (not (member == address) && is_among member addresses)
among-without member address addresses = among-filter (λ element. not (element == address)) member addresses
