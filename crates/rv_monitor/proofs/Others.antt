-- The world of one hart, and the worlds of the other harts. A list of worlds with the world of one hart moved to the front has the same properties.
use Rattle.std.proofs.Common.{◌≡◌, ℕ, zero, suc, ◌<◌, Bool, true, false, List, [], ◌∷◌, length, slice_set, refl, sym, ◌∙◌, ap, inl, inr, arith}
use Rattle.std.specs.Prelude.{◌||◌}
use Rattle.std.proofs.lemmas.Bool.{or_from, or_parts}
use Rattle.rv_monitor.specs.Prelude.{AreApart, SharedInvariant, Shared, World, is_world_of}
use Rattle.rv_monitor.proofs.Prelude.{both_ways, cases_Bool, list_any}

-- The first two parts of a disjunction of three tests may be exchanged. Each case holds by computation.
or_swap : (a b c : Bool) → (a || (b || c)) ≡ (b || (a || c))
or_swap true true c = refl
or_swap true false c = refl
or_swap false b c = refl

-- the list of worlds without the world at an index
abbrev pub without : List World → ℕ → List World
without [] index = []
without (first ∷ worlds) zero = worlds
without (first ∷ worlds) (suc index) = first ∷ without worlds index

-- a test holds for some world of a list if and only if it holds for the world at the index or for some other world
pub any_with_world_in_front : (test : World → Bool) (worlds : List World) (index : ℕ) (world : World) → index < length worlds
    → list_any test (slice_set worlds index world) ≡ (test world || list_any test (without worlds index))
any_with_world_in_front test [] index world in_range = absurd (omega (arith, in_range))
any_with_world_in_front test (first ∷ rest) zero world in_range = refl
any_with_world_in_front test (first ∷ rest) (suc index) world in_range =
    ap (λ (rest_test : Bool). test first || rest_test) (any_with_world_in_front test rest index world (omega (arith, in_range)))
    ∙ or_swap (test first) (test world) (list_any test (without rest index))

-- worlds that are apart stay apart if the world at the index moves to the front
apart_in_front : (worlds : List World) (index : ℕ) (world : World) → index < length worlds
    → AreApart (slice_set worlds index world)
    → AreApart (world ∷ without worlds index)
apart_in_front [] index world in_range worlds_apart = absurd (omega (arith, in_range))
apart_in_front (first ∷ rest) zero world in_range worlds_apart = worlds_apart
apart_in_front (first ∷ rest) (suc index) world in_range (first_apart, tail_apart) =
    let in_tail : index < length rest = omega (arith, in_range) in
    let (world_apart_from_rest, rest_apart) = apart_in_front rest index world in_tail tail_apart in
    -- no other world runs an enclave that the first world runs
    let others_run_other : (slot : ℕ) → is_world_of slot first ≡ true
    → (is_world_of slot world ≡ false) × (list_any (is_world_of slot) (without rest index) ≡ false) =
    λ slot first_runs. or_parts _ _ (sym (any_with_world_in_front (is_world_of slot) rest index world in_tail) ∙ first_apart slot first_runs) in (
      λ slot first_runs. elim (cases_Bool (is_world_of slot first)) [
        -- two worlds that are apart do not run the same enclave
        | inl runs_enclave ↦ let (world_runs_other, _) = others_run_other slot runs_enclave in absurd (both_ways _ world_runs_other first_runs)
        | inr world_runs_other ↦ or_from (is_world_of slot first) _ world_runs_other (world_apart_from_rest slot first_runs)
      ],
      ((λ slot first_runs. let (_, rest_runs_other) = others_run_other slot first_runs in rest_runs_other), rest_apart),
    )

-- worlds that are apart stay apart if the first world moves to the index
apart_moved_back : (worlds : List World) (index : ℕ) (world : World) → index < length worlds
    → AreApart (world ∷ without worlds index)
    → AreApart (slice_set worlds index world)
apart_moved_back [] index world in_range worlds_apart = absurd (omega (arith, in_range))
apart_moved_back (first ∷ rest) zero world in_range worlds_apart = worlds_apart
apart_moved_back (first ∷ rest) (suc index) world in_range (world_apart, others_apart) =
    let in_tail : index < length rest = omega (arith, in_range) in
    let (first_apart, rest_apart) = others_apart in (
      λ slot first_runs. any_with_world_in_front (is_world_of slot) rest index world in_tail
          ∙ elim (cases_Bool (is_world_of slot world)) [
            -- two worlds that are apart do not run the same enclave
            | inl runs_enclave ↦ let (first_runs_other, _) = or_parts _ _ (world_apart slot runs_enclave) in
                absurd (both_ways _ first_runs_other first_runs)
            | inr world_runs_other ↦ or_from (is_world_of slot world) _ world_runs_other (first_apart slot first_runs)
          ],
      apart_moved_back rest index world in_tail
          ((λ slot world_runs. let (_, rest_runs_other) = or_parts _ _ (world_apart slot world_runs) in rest_runs_other), rest_apart),
    )

-- the shared invariant for a list of worlds holds for the list with the world at the index moved to the front
pub shared_invariant-moved_to_front : (shared : Shared) (worlds : List World) (index : ℕ) (world : World) → index < length worlds
    → SharedInvariant shared (slice_set worlds index world)
    → SharedInvariant shared (world ∷ without worlds index)
shared_invariant-moved_to_front shared worlds index world in_range shared_invariant = record {
  valid = shared_invariant.valid;
  contexts = shared_invariant.contexts;
  running = λ slot. shared_invariant.running slot ∙ any_with_world_in_front (is_world_of slot) worlds index world in_range;
  apart = apart_in_front worlds index world in_range shared_invariant.apart;
}

-- the shared invariant for a list of worlds holds for the list with the first world moved to the index
pub shared_invariant-moved_back : (shared : Shared) (worlds : List World) (index : ℕ) (world : World) → index < length worlds
    → SharedInvariant shared (world ∷ without worlds index)
    → SharedInvariant shared (slice_set worlds index world)
shared_invariant-moved_back shared worlds index world in_range shared_invariant = record {
  valid = shared_invariant.valid;
  contexts = shared_invariant.contexts;
  running = λ slot. shared_invariant.running slot ∙ sym (any_with_world_in_front (is_world_of slot) worlds index world in_range);
  apart = apart_moved_back worlds index world in_range shared_invariant.apart;
}
