-- The proof obligations of `measurement` (src/create.rt).
use Rattle.std.proofs.Common.{◌≡◌, ℕ, List, ◌++◌, [], ◌∙◌, ap, append_assoc}
use Rattle.sha2.specs.Sha256.{sha256}
use Rattle.rv_enclaves.proofs.Prelude.{measurement_of}
use Rattle.rv_enclaves.proofs.create.measurement.Goals as goal

-- equal parts of the measured bytes, joined in order, give equal lists, whichever parts are joined first
joined : {a b c d e r a' b' c' d' e' r' : List ℕ} → a ≡ a' → b ≡ b' → c ≡ c' → d ≡ d' → e ≡ e' → r ≡ r'
    → ((((a ++ b) ++ c) ++ d) ++ e) ++ r ≡ (a' ++ (b' ++ (c' ++ (d' ++ e')))) ++ r'
joined same_a same_b same_c same_d same_e same_r = rw (same_a, same_b, same_c, same_d, same_e, same_r) (simp append_assoc)

-- `measurement` meets its contract: the hasher gets the five words of the heading and then the bytes of the region
pub returns : goal.returns
unfolding measurement_of
returns c =
    let hashed_region_base = c.update.ensures [] c.new-hasher.ensures in
    let hashed_region_size = c.update-2.ensures _ hashed_region_base in
    let hashed_window_base = c.update-3.ensures _ hashed_region_size in
    let hashed_window_size = c.update-4.ensures _ hashed_window_base in
    let hashed_entry = c.update-5.ensures _ hashed_window_size in
    let hashed_region_bytes = c.update-6.ensures _ hashed_entry in
    c.finalize.ensures _ hashed_region_bytes
    ∙ ap sha256
    (joined c.word_bytes.ensures c.word_bytes-2.ensures c.word_bytes-3.ensures c.word_bytes-4.ensures c.word_bytes-5.ensures c.block_bytes.ensures)
