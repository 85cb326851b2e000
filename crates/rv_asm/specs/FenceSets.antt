-- The sets of accesses that a fence orders (RISC-V Unprivileged ISA 20191213, section 2.7): device input 8, device output 4, memory reads 2,
-- memory writes 1.
use Rattle.std.specs.Prelude.{ℕ, List, [], ◌∷◌, codes}

-- each set of accesses as fence names it, and its four bits i, o, r and w
unfoldable pub fence_sets : List (List ℕ × ℕ)
fence_sets =
    (codes "0", 0) ∷ (codes "w", 1) ∷ (codes "r", 2) ∷ (codes "rw", 3)
    ∷ (codes "o", 4) ∷ (codes "ow", 5) ∷ (codes "or", 6) ∷ (codes "orw", 7)
    ∷ (codes "i", 8) ∷ (codes "iw", 9) ∷ (codes "ir", 10) ∷ (codes "irw", 11)
    ∷ (codes "io", 12) ∷ (codes "iow", 13) ∷ (codes "ior", 14) ∷ (codes "iorw", 15)
    ∷ []
