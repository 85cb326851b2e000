-- Examples of the table of CSRs: the name or the register that a number has. Each holds by computation.
use Rattle.std.proofs.Common.{◌≡◌, Some, None, refl}
use Rattle.std.specs.Prelude.{codes}
use Rattle.rv_state.specs.CsrTable.{csr_listing, csr_numbered, name_of_number}
use Rattle.rv_state.specs.declared.csr_name.CsrName.TheVariants.{Mepc, Zero}

-- the CSR with the number 0x341 is named mepc
mepc-named : name_of_number 0x341 ≡ Some (codes "mepc")
unfolding csr_listing
mepc-named = refl

-- the number 0x341 selects the register mepc
mepc-numbered : csr_numbered 0x341 ≡ Some Mepc
unfolding csr_numbered csr_listing
mepc-numbered = refl

-- the CSR with the number 0x3BF is named pmpaddr15
last-entry-named : name_of_number 0x3BF ≡ Some (codes "pmpaddr15")
unfolding csr_listing
last-entry-named = refl

-- the CSR with the number 0xB03 is named mhpmcounter3
first-counter-named : name_of_number 0xB03 ≡ Some (codes "mhpmcounter3")
unfolding csr_listing
first-counter-named = refl

-- the CSR with the number 0xB9F is named mhpmcounter31h
last-half-named : name_of_number 0xB9F ≡ Some (codes "mhpmcounter31h")
unfolding csr_listing
last-half-named = refl

-- the number 0xB9F selects the register that always reads 0
last-half-reads-zero : csr_numbered 0xB9F ≡ Some Zero
unfolding csr_numbered csr_listing
last-half-reads-zero = refl

-- no CSR has the number 0x307
none-named : name_of_number 0x307 ≡ None
unfolding csr_listing
none-named = refl
