-- The machine at reset in numbers. The manual leaves most of these values open; this project chooses them. (Reset: RISC-V Privileged Architecture
-- 20211203, section 3.4; the values of pmpcfg and pmpaddr: section 3.7.1.)
use Rattle.std.specs.Prelude.{ℕ, false, List, [], ◌∷◌, ◌++◌, map, replicate, None}
use Rattle.std.specs.List.{range_with_len}
use Rattle.rv_monitor.specs.Prelude.{HartState, Host, S, U}
use Rattle.rv_monitor.specs.MonitoredMachine.{MonitoredMachine}

-- The hart at reset runs the host in S at the entry address, and every register but a0 is 0. Entry 0 of the PMP denies the monitor's range, 80000000
-- to 8000FFFF, and entry 15 grants the rest. No interrupt is enabled.
abbrev pub hart_at_reset : ℕ → ℕ → HartState
hart_at_reset entry a0 = record {
  hart = record {
    regs = replicate 10 0 ++ a0 ∷ replicate 21 0;
    csrs = record {
      mstatus = record {
        sie = false;
        mie = false;
        spie = false;
        mpie = false;
        spp = false;
        mpp = U;
        mprv = false;
        mxr = false;
        tvm = false;
        tw = false;
        tsr = false;
      };
      mie = 0;
      mtvec = 0;
      mcountinhibit = 0;
      mscratch = 0;
      mepc = 0;
      mcause = 0;
      mtval = 0;
      software_pending = 0;
      timer = false;
      pmp = record { cfgs = 0x18 ∷ replicate 14 0 ++ 0x1F ∷ []; addrs = 0x20001FFF ∷ replicate 14 0 ++ 0xFFFFFFFF ∷ [] };
      mcycle = 0;
      minstret = 0;
      stvec = 0;
      sscratch = 0;
      sepc = 0;
      scause = 0;
      stval = 0;
    };
    pc = entry;
    mode = S;
  };
  host_context = None;
  world = Host;
}

-- each hart has its number in a0
abbrev pub harts_at_reset : ℕ → ℕ → List HartState
harts_at_reset hart_count entry = map (hart_at_reset entry) (range_with_len 0 hart_count)

-- the machine at reset has no enclave in any of its slots
abbrev pub machine_at_reset : List ℕ → ℕ → ℕ → MonitoredMachine
machine_at_reset memory entry hart_count = record {
  hart_states = harts_at_reset hart_count entry;
  shared = record { memory = memory; table = replicate 13 None; contexts = replicate 13 None };
}
