-- Below mode M the hidden registers have no effect on CSR accesses. They are the registers of mode M, the PMP entries and the counters. A read
-- returns the same with and without them, and a write leaves the same values in the other registers.
use Rattle.std.proofs.Common.{◌≡◌, ℕ, Bool, Option, Some, None, Result, Ok, Err, true, false, refl, sym, ◌∙◌, ap, inl, inr, rules}
use Rattle.std.proofs.lemmas.Bool.{cases_Bool}
use Rattle.std.specs.Prelude.{nat_lt, if◌then◌else◌}
use Rattle.rv_pmp.specs.Mode.{mode_number}
use Rattle.rv_pmp.specs.declared.mode.Mode.{Mode}
use Rattle.rv_pmp.specs.declared.mode.Mode.TheVariants.{U, S, M}
use Rattle.rv_state.specs.CsrState.{CsrState}
use Rattle.rv_state.specs.CsrTable.{csr_numbered, csr_listing, csr_of, least_mode, is_read_only, is_trapped, on_register, read_result}
use Rattle.rv_state.specs.CsrTable.{reading, write_result, written}
use Rattle.rv_state.specs.GuestCsrs.{below_m_csrs}
use Rattle.rv_state.specs.Interrupts.{is_machine}
use Rattle.rv_state.proofs.MachinePartsLemmas.{OfRows, RequiresM, checked_write, holds-of-found, of-single-row, of-range-row, refused-below-m}
use Rattle.rv_state.specs.declared.csr_fault.CsrFault.{CsrFault}
use Rattle.rv_state.specs.declared.csr_fault.CsrFault.TheVariants as faults
use Rattle.rv_state.specs.declared.csr_name.CsrName.{CsrName}
use Rattle.rv_state.specs.declared.csr_name.CsrName.TheVariants.{Satp, Mstatus, Mepc, Mcause, Mtval, Mcycle, Minstret, Mcycleh, Minstreth}
use Rattle.rv_state.specs.declared.csr_name.CsrName.TheVariants.{Mie, Mtvec, Mscratch, Mip, Pmpcfg, Pmpaddr, Mcountinhibit}

-- ---- the numbers of the hidden registers require mode M

-- whether the register is hidden, which means that modes S and U cannot read it: the registers of mode M, the PMP entries and the counters
abbrev is_hidden : CsrName → Bool
is_hidden Mstatus = true
is_hidden Mepc = true
is_hidden Mcause = true
is_hidden Mtval = true
is_hidden Mcycle = true
is_hidden Minstret = true
is_hidden Mcycleh = true
is_hidden Minstreth = true
is_hidden Mie = true
is_hidden Mtvec = true
is_hidden Mscratch = true
is_hidden Mip = true
is_hidden (Pmpcfg register) = true
is_hidden (Pmpaddr entry) = true
is_hidden Mcountinhibit = true
is_hidden _ = false

-- the number requires mode M if its register is hidden
abbrev HiddenRequiresM : ℕ → CsrName → Type 0
HiddenRequiresM number name = is_hidden name ≡ true → RequiresM number

-- the row of a range of registers that are not hidden: nothing is to prove
of-visible-row : (number : ℕ) (name : CsrName) (covers : Bool) → is_hidden name ≡ false → covers ≡ true → HiddenRequiresM number name
of-visible-row number name covers not_hidden is_covered name_is_hidden =
    let contradiction : false ≡ true = sym not_hidden ∙ name_is_hidden in cc

-- in each row of the listing that covers the number, a hidden register requires mode M
rows-require-m : (number : ℕ) → OfRows (HiddenRequiresM number) number csr_listing
unfolding csr_listing
rows-require-m number = search (rules, of-single-row, of-range-row, of-visible-row)

-- if the register of the number is hidden, the number requires mode M
hidden-requires-m : (number : ℕ) (name : CsrName) → csr_numbered number ≡ Some name → HiddenRequiresM number name
unfolding csr_numbered
hidden-requires-m number name register_is =
    holds-of-found (HiddenRequiresM number) csr_listing number name (rows-require-m number) register_is

-- ---- reads

-- whether mstatus.TVM traps the access does not depend on the hidden registers; `below_m_csrs` sets them to 0
trapped_same : (name : CsrName) (mode : Mode) (csrs : CsrState) → is_trapped name mode (below_m_csrs csrs) ≡ is_trapped name mode csrs
trapped_same Satp U csrs = refl
trapped_same Satp S csrs = refl
trapped_same Satp M csrs = refl
trapped_same _ mode csrs = refl

-- the word of a register that is not hidden does not depend on the hidden ones; for a hidden register the premise is false
reading_same : (name : CsrName) (csrs : CsrState) → is_hidden name ≡ false → reading name (below_m_csrs csrs) ≡ reading name csrs
unfolding csr_of
reading_same Mstatus csrs not_hidden = cc
reading_same Mepc csrs not_hidden = cc
reading_same Mcause csrs not_hidden = cc
reading_same Mtval csrs not_hidden = cc
reading_same Mcycle csrs not_hidden = cc
reading_same Minstret csrs not_hidden = cc
reading_same Mcycleh csrs not_hidden = cc
reading_same Minstreth csrs not_hidden = cc
reading_same Mie csrs not_hidden = cc
reading_same Mtvec csrs not_hidden = cc
reading_same Mscratch csrs not_hidden = cc
reading_same Mip csrs not_hidden = cc
reading_same (Pmpcfg register) csrs not_hidden = cc
reading_same (Pmpaddr entry) csrs not_hidden = cc
reading_same Mcountinhibit csrs not_hidden = cc
reading_same _ csrs not_hidden = refl

module _ (csrs : CsrState) (number : ℕ) (mode : Mode) where
  -- the result of a read of the register in the state `csrs`, from the results of the checks of the mode and of the trap
  abbrev read_after_checks : CsrState → CsrName → Bool → Bool → Result ℕ CsrFault
  read_after_checks state name mode_refuses traps =
      if mode_refuses then Err faults.Privilege else (if traps then Err faults.Trapped else Ok (reading name state))

  -- a read of a register is the same with and without the hidden registers, if the check of the mode refuses the hidden ones
  register_read_same : (name : CsrName) (mode_refuses : Bool) → (is_hidden name ≡ true → mode_refuses ≡ true)
      → read_after_checks (below_m_csrs csrs) name mode_refuses (is_trapped name mode (below_m_csrs csrs))
      ≡ read_after_checks csrs name mode_refuses (is_trapped name mode csrs)
  register_read_same name true hidden_is_refused = refl
  register_read_same name false hidden_is_refused = elim (cases_Bool (is_hidden name)) [
    | inl name_is_hidden ↦ let contradiction = hidden_is_refused name_is_hidden in cc
    | inr not_hidden ↦
        let same_word = reading_same name csrs not_hidden in
        let same_trap = trapped_same name mode csrs in
        ap (λ (traps : Bool). if traps then Err faults.Trapped else Ok (reading name (below_m_csrs csrs))) same_trap
        ∙ ap (λ (word : ℕ). if is_trapped name mode csrs then Err faults.Trapped else Ok word) same_word
  ]

  -- the result of a read of the register `name` of the number, in the state `csrs`
  abbrev checked_read : CsrState → CsrName → Result ℕ CsrFault
  checked_read state name = read_after_checks state name (nat_lt (mode_number mode) (least_mode number)) (is_trapped name mode state)

  -- a read below mode M does not depend on the hidden registers; `register` is the register of the number, if there is one
  numbered_read_same : (register : Option CsrName) → csr_numbered number ≡ register → is_machine mode ≡ false
      → on_register register (checked_read (below_m_csrs csrs)) ≡ on_register register (checked_read csrs)
  numbered_read_same None register_is is_below_m = refl
  numbered_read_same (Some name) register_is is_below_m =
      register_read_same name (nat_lt (mode_number mode) (least_mode number))
      (λ name_is_hidden. refused-below-m number mode (hidden-requires-m number name register_is name_is_hidden) is_below_m)

  -- a CSR read below mode M does not depend on the hidden registers
  pub read_same : is_machine mode ≡ false → read_result (below_m_csrs csrs) number mode ≡ read_result csrs number mode
  unfolding read_result
  read_same is_below_m = numbered_read_same (csr_numbered number) refl is_below_m

-- ---- writes

-- the result of a write with the hidden registers set to 0; a fault stays as it is
abbrev pub visible_csrs : Result CsrState CsrFault → Result CsrState CsrFault
visible_csrs (Ok csrs) = Ok (below_m_csrs csrs)
visible_csrs (Err fault) = Err fault

-- a write leaves the same values in the visible registers, whatever the hidden ones hold; each case holds by computation
written_same : (name : CsrName) (word : ℕ) (csrs : CsrState)
    → below_m_csrs (written name word (below_m_csrs csrs)) ≡ below_m_csrs (written name word csrs)
unfolding csr_of
written_same Satp word csrs = refl
written_same _ word csrs = refl

module _ (csrs : CsrState) (number word : ℕ) (mode : Mode) where
  -- the result of a write to the register in the state `csrs`, from the results of the checks of the mode, the number and the trap
  abbrev write_after_checks : CsrState → CsrName → Bool → Bool → Bool → Result CsrState CsrFault
  write_after_checks state name mode_refuses is_read_only_number traps =
      if mode_refuses then Err faults.Privilege
      else (if is_read_only_number then Err faults.ReadOnly
      else (if traps then Err faults.Trapped else Ok (written name word state)))

  -- a write to a register leaves the same visible registers whatever the hidden ones hold; the Boolean arguments are the results of its checks
  register_write_same : (name : CsrName) (mode_refuses is_read_only_number traps traps_visible : Bool) → traps_visible ≡ traps
      → visible_csrs (write_after_checks (below_m_csrs csrs) name mode_refuses is_read_only_number traps_visible)
      ≡ visible_csrs (write_after_checks csrs name mode_refuses is_read_only_number traps)
  register_write_same name true is_read_only_number traps traps_visible same_trap = refl
  register_write_same name false true traps traps_visible same_trap = refl
  register_write_same name false false true traps_visible same_trap = rw same_trap refl
  register_write_same name false false false traps_visible same_trap =
      rw same_trap (ap (λ (state : CsrState). let result : Result CsrState CsrFault = Ok state in result) (written_same name word csrs))

  -- a write leaves the same visible registers whatever the hidden ones hold; `register` is the register of the number, if there is one
  numbered_write_same : (register : Option CsrName)
      → visible_csrs (on_register register (checked_write (below_m_csrs csrs) number word mode))
      ≡ visible_csrs (on_register register (checked_write csrs number word mode))
  numbered_write_same None = refl
  numbered_write_same (Some name) =
      register_write_same name (nat_lt (mode_number mode) (least_mode number)) (is_read_only number) (is_trapped name mode csrs)
      (is_trapped name mode (below_m_csrs csrs)) (trapped_same name mode csrs)

  -- a CSR write leaves the same values in the visible registers, whatever the hidden ones hold
  pub write_same : visible_csrs (write_result (below_m_csrs csrs) number word mode) ≡ visible_csrs (write_result csrs number word mode)
  unfolding write_result
  write_same = numbered_write_same (csr_numbered number)
