-- The proof obligation of the law `enclave_run_depends_on_enclave` (src/laws.rt).
use Rattle.rv_monitor.proofs.EnclaveSteps.{enclave_run_law}
use Rattle.rv_monitor.proofs.laws.enclave_run_depends_on_enclave.Goals as goal

-- proves the law (`EnclaveRunLaw`) that is the contract of `enclave_run_depends_on_enclave`
pub returns : goal.returns
returns c = enclave_run_law
