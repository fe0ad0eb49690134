-- Document 01, "The record and its tags": the six timers.

-- The timers. Where only a tag matters, a driver is named by its timer: the prover by HP, the verifier by HV.
pub data Timer : Type 0 where
  H HP HV DAT RA ACK : Timer
