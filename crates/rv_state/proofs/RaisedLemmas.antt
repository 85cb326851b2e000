-- The word of pending interrupts (mip) consists of the software bits and of the timer line, and each part can be read back.
use Rattle.std.proofs.Common.{◌≡◌, ℕ, ◌+◌, ◌/◌, ◌%◌, ◌^◌, Bool, true, false, refl, arith}
use Rattle.rv_word.specs.BitFields.{is_set, flag}
use Rattle.rv_state.specs.Interrupts.{software_pending_of}
use Rattle.rv_state.specs.Cache.Kept.{mip_of, raised_in}
use Rattle.rv_state.proofs.MaskLemmas.{software_of, software_again}

-- the word of mip: the bits of `word` that software writes, and the timer line as MTIP (bit 7)
abbrev mip_with_timer : ℕ → Bool → ℕ
mip_with_timer word timer = software_pending_of word + flag 7 timer

-- the software bits of the word of mip are those it was made of, since MTIP is not one of them
pub software_part : (word : ℕ) (timer : Bool) → software_pending_of (mip_with_timer word timer) ≡ software_pending_of word
software_part word true = omega (arith, software_of word, software_of (mip_with_timer word true))
software_part word false = omega (arith, software_of word, software_of (mip_with_timer word false))

-- MTIP (bit 7) of the word of mip is the timer line
pub timer_part : (word : ℕ) (timer : Bool) → is_set (mip_with_timer word timer) 7 ≡ timer
timer_part word true = let timer_bit : mip_with_timer word true / 2 ^ 7 % 2 ≡ 1 = omega (arith, software_of word) in rw timer_bit refl
timer_part word false = let timer_bit : mip_with_timer word false / 2 ^ 7 % 2 ≡ 0 = omega (arith, software_of word) in rw timer_bit refl

-- taking the word of mip apart, into software bits and timer line, and joining the parts again gives the same word
pub only_raised : (word : ℕ) (timer : Bool) → mip_of (raised_in (mip_with_timer word timer)) ≡ mip_with_timer word timer
only_raised word timer = rw (software_part word timer, software_again word, timer_part word timer) refl
