-- This file proves obligations of `fault`, which converts an error of `clap`.
use Rattle.std.proofs.Common.{◌≡◌, ◌∙◌, ◌∷◌, [], Bool, inl, inr, not, refl, sym, true}
use Rattle.std.proofs.Math.Bool.{or-true}
use Rattle.std.specs.List.{list_any}
use Rattle.clap.specs.Kinds.{IsAmong, Kinds}
use Rattle.clap.specs.declared.error.kind.ErrorKind.{ErrorKind}
use Rattle.clap.specs.declared.error.kind.ErrorKind.TheVariants as kind
use Rattle.rv_command_line.specs.Faults.{is_help}
use Rattle.rv_command_line.proofs.reading.fault.Goals as goal

-- some fault passes a test, if the kind k passes it and is among the faults, by induction over the faults
one_passes : (test : ErrorKind → Bool) (k : ErrorKind) (faults : Kinds) → test k ≡ true → IsAmong k faults → list_any test faults ≡ true
one_passes test k [] passes is_among = absurd is_among
one_passes test k (x ∷ xs) passes (inl is_first) = rw (sym is_first, passes) refl
one_passes test k (x ∷ xs) passes (inr is_among) = rw (one_passes test k xs passes is_among) (or-true (test x))

-- any kind except the request for help is a mistake
mistake_if_not_help : (k : ErrorKind) → (k ≡ kind.DisplayHelp → ⊥) → not (is_help k) ≡ true
mistake_if_not_help kind.DisplayHelp not_help = absurd (not_help refl)
mistake_if_not_help _ not_help = refl

-- if `clap` asks for help to be shown, the arguments request help
pub returns-in-Ok : goal.returns-in-Ok
returns-in-Ok c faults (inl no_memory) = let help_asked = sym c.kind.ensures ∙ c.in-DisplayHelp.is in cc
returns-in-Ok c faults (inr is_among) = one_passes is_help _ faults (rw (sym c.kind.ensures ∙ c.in-DisplayHelp.is) refl) is_among

-- any other error of `clap` that is not of memory is a mistake in the arguments
pub returns-in_default : goal.returns-in_default
returns-in_default c faults (inl no_memory) = absurd (c.in_default.not-OutOfMemory (c.kind.ensures ∙ no_memory))
returns-in_default c faults (inr is_among) =
    let is_mistake = mistake_if_not_help _ (λ is_help_kind. c.in_default.not-DisplayHelp (c.kind.ensures ∙ is_help_kind)) in
    one_passes (λ k. not (is_help k)) _ faults is_mistake is_among
