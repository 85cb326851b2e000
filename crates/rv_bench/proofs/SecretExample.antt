-- An example of the law of secrets: a script pokes a key into the enclave of slot 0, and its other lines avoid that enclave. The output is the
-- same for every key.
use Rattle.std.proofs.Common.{◌≡◌, inl, inr, List, ℕ, ◌++◌, codes, IfOk, Result, Ok, Err, refl, true}
use Rattle.rv_memory.specs.Blocks.{has}
use Rattle.rv_text.specs.GoodLines.{is_text}
use Rattle.rv_text.specs.Lines.{lines_of, through_last_feed}
use Rattle.rv_text.specs.Numbers.{number_of_digits}
use Rattle.rv_text.specs.Words.{words_of}
use Rattle.rv_script.specs.Command.{keyword_of, meaning_of, parse_of}
use Rattle.rv_script.specs.Numbers.{hexadecimal_of, byte_of_text}
use Rattle.rv_script.specs.declared.command.Command.TheVariants.{Poke}
use Rattle.rv_debug.specs.Execute.{execute}
use Rattle.rv_debug.specs.BenchState.{BenchState}
use Rattle.rv_debug.specs.BothBenches.{can_scramble, is_blind, region_in}
use Rattle.rv_command_line.specs.declared.setup.Setup.{Setup}
use Rattle.rv_streams.specs.declared.fault.BenchFault.{BenchFault}
use Rattle.rv_streams.specs.Separator.{after_separator, has_separator}
use Rattle.rv_bench.specs.Noninterference.{AreSecret, LineAvoidsEnclave}
use Rattle.rv_bench.specs.Output.{bench_in, output}
use Rattle.rv_bench.specs.Replies.{bench_line, state_after}
use Rattle.rv_streams.proofs.Mapped.{IsOkAnd-at}
use Rattle.rv_bench.proofs.NoninterferenceLemmas.{secret_noninterference}

-- `key` pokes a key byte into the enclave, and has a comment line
abbrev key : List ℕ
key = codes "poke 80020000 41\n# that was the key\n"

-- `other_key` pokes another key byte, to another address of the enclave
abbrev other_key : List ℕ
other_key = codes "poke 80020ffc 5a\n# that was the key\n"

-- `rest` is the rest of the script, which lists the enclaves and shows the registers
abbrev rest : List ℕ
rest = codes "enclaves\nregs\n"

-- the enclave of slot 0 is live and runs on no hart, and the two addresses that the keys are poked to are in its region
pub record HasEnclave (bench : BenchState) : Type 0 where
  -- the enclave is live and runs on no hart
  pub idle : can_scramble 0 bench ≡ true
  -- the first address is in the region
  pub first : has (region_in 0 bench.target) 0x80020000 ≡ true
  -- the second address is in the region
  pub second : has (region_in 0 bench.target) 0x80020ffc ≡ true

-- a comment avoids the enclave
comment_avoids_enclave : (bench : BenchState) → LineAvoidsEnclave 0 bench (codes "# that was the key")
unfolding parse_of is_text meaning_of words_of is_blind execute
comment_avoids_enclave bench = record { blind = refl; past = refl }

-- `enclaves` avoids the enclave
enclaves_avoids_enclave : (bench : BenchState) → LineAvoidsEnclave 0 bench (codes "enclaves")
unfolding parse_of is_text meaning_of words_of keyword_of is_blind execute
enclaves_avoids_enclave bench = record { blind = refl; past = refl }

-- `regs` avoids the enclave
regs_avoids_enclave : (bench : BenchState) → LineAvoidsEnclave 0 bench (codes "regs")
unfolding parse_of is_text meaning_of words_of keyword_of is_blind execute
regs_avoids_enclave bench = record { blind = refl; past = refl }

-- the first line of `key` is read as a poke of the byte 41
first_poke_parsed : parse_of (codes "poke 80020000 41") ≡ Ok (Poke 0x80020000 0x41)
unfolding parse_of is_text meaning_of words_of keyword_of hexadecimal_of number_of_digits byte_of_text
first_poke_parsed = refl

-- the first line of `other_key` is read as a poke of the byte 5a
second_poke_parsed : parse_of (codes "poke 80020ffc 5a") ≡ Ok (Poke 0x80020ffc 0x5a)
unfolding parse_of is_text meaning_of words_of keyword_of hexadecimal_of number_of_digits byte_of_text
second_poke_parsed = refl

-- the keys are secrets: each is poked into the region, and the other lines avoid the enclave, which runs on no hart
keys_are_secret : (bench : BenchState) → HasEnclave bench → AreSecret 0 bench (lines_of key) (lines_of other_key) (lines_of rest)
keys_are_secret bench enclave = record {
  pokes = (
    inl (IsOkAnd-at _ _ _ first_poke_parsed enclave.first, IsOkAnd-at _ _ _ second_poke_parsed enclave.second),
    (inr (refl, comment_avoids_enclave _), tt),
  );
  passes = λ live. (enclaves_avoids_enclave _, λ live. (regs_avoids_enclave _, tt));
  hart_avoided = inl enclave.idle;
}

-- the keys are secrets after any lines before them
keys_are_secret_after : (bench : Result BenchState BenchFault) (before : List (List ℕ))
    → IfOk bench (λ bench. HasEnclave (state_after bench_line bench before))
    → IfOk bench (λ bench. AreSecret 0 (state_after bench_line bench before) (lines_of key) (lines_of other_key) (lines_of rest))
keys_are_secret_after (Ok bench) before enclave = keys_are_secret (state_after bench_line bench before) enclave
keys_are_secret_after (Err fault) before enclave = tt

-- two inputs that differ only in the key have the same output, whatever the lines before the key
pub key_is_concealed : (setup : Setup) (prefix : List ℕ) → through_last_feed prefix ≡ prefix → has_separator prefix ≡ true
    → IfOk (bench_in setup prefix) (λ bench. HasEnclave (state_after bench_line bench (lines_of (after_separator prefix))))
    → output setup (prefix ++ (key ++ rest)) ≡ output setup (prefix ++ (other_key ++ rest))
key_is_concealed setup prefix whole_lines separated has_enclave =
    secret_noninterference setup (prefix ++ (key ++ rest)) 0 (prefix ++ (other_key ++ rest)) (record {
      prefix = prefix;
      secret = key;
      other_secret = other_key;
      rest = rest;
      input_is = refl;
      other_is = refl;
      whole_prefix = whole_lines;
      whole_secret = refl;
      whole_other_secret = refl;
      separated = separated;
      poked = keys_are_secret_after (bench_in setup prefix) (lines_of (after_separator prefix)) has_enclave;
    })
