-- Lines that are gathered in a buffer and written to a sink, one line for each item of a list.
use Rattle.std.proofs.Common.{◌≡◌, ℕ, ◌+◌, ◌<◌, ◌≤◌, List, [], ◌∷◌, ◌++◌, length, take, drop, get_or, append-nil, sym, ◌∙◌, ap}
use Rattle.std.specs.List.{flat_map}
use Rattle.std.proofs.lemmas.Grind.{flat_map-append}
use Rattle.std.proofs.lemmas.List.{take_all, take_more, take-append-drop}
use Rattle.rv_streams.specs.Transfer.{WritesUpTo, WritesPrefix}
use Rattle.rv_streams.proofs.Writing.{WritesUpTo-on, WritesUpTo-line, WritesUpTo-stopped, WritesUpTo-all}

module _ {X : Type 0} (line : X → List ℕ) (items : List X) where
  -- the line of the next item, number `count` from 0, is gathered, after some of the gathered bytes (`before`) were written and others (`held`) are
  -- still held
  pub lines-more : (count : ℕ) (default : X) (old middle new before held gathered : List ℕ) → count < length items
      → WritesUpTo old middle (flat_map line (take count items)) before → WritesUpTo middle new before held
      → gathered ≡ held ++ line (get_or items count default)
      → WritesUpTo old new (flat_map line (take (count + 1) items)) gathered
  lines-more count default old middle new before held gathered index_in_items so_far wrote_before gathered_is =
      WritesUpTo-line old new _ held (line (get_or items count default)) _ gathered (WritesUpTo-on old middle new _ before held so_far wrote_before)
      (ap (flat_map line) (take_more items count default index_in_items)
      ∙ (flat_map-append line (take count items) (get_or items count default ∷ [])
      ∙ ap (λ lines. flat_map line (take count items) ++ lines) (append-nil (line (get_or items count default))))) gathered_is

  -- a sink that fails in the bytes of the lines so far has taken a prefix of all lines
  pub lines-stopped : (count : ℕ) (old middle new before : List ℕ) → WritesUpTo old middle (flat_map line (take count items)) before
      → WritesPrefix middle new before
      → WritesPrefix old new (flat_map line items)
  lines-stopped count old middle new before so_far stops =
      WritesUpTo-stopped old middle new _ before (flat_map line (drop count items)) _ so_far stops
      (ap (flat_map line) (sym (take-append-drop count items)) ∙ flat_map-append line (take count items) (drop count items))

  -- all lines are written after the lines of `count` items, if there are at most `count` items
  pub lines-all : (count : ℕ) (old middle new before : List ℕ) → length items ≤ count
      → WritesUpTo old middle (flat_map line (take count items)) before
      → new ≡ middle ++ before → new ≡ old ++ flat_map line items
  lines-all count old middle new before count_is_all so_far wrote_held =
      WritesUpTo-all old middle new _ before so_far wrote_held ∙ ap (λ xs. old ++ flat_map line xs) (take_all count items count_is_all)
