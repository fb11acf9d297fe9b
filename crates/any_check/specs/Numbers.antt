-- The numbers that stored texts ask for, and numbers for each family of schemes.
use Rattle.std.specs.Prelude.{ℕ, Bool, ◌||◌, nat_lt}
use Rattle.scheme_list.specs.declared.schemes.CostFamily.{CostFamily}
use Rattle.scheme_list.specs.declared.schemes.CostFamily.TheVariants as of
use Rattle.any_check.specs.declared.numbers.Costs.{Costs}
use Rattle.any_check.specs.declared.numbers.SchemeCosts.{SchemeCosts}

-- ---- numbers, by their names in the standards of the schemes

-- none
abbrev pub no_costs : Costs
no_costs = record { rounds = 0; cost = 0; ln = 0; r = 0; p = 0; t = 0; m = 0 }

-- the rounds of SHA-crypt and of PBKDF2 (RFC 8018)
abbrev pub of_rounds : ℕ → Costs
of_rounds rounds = record no_costs { rounds = rounds }

-- the cost of bcrypt
abbrev pub of_cost : ℕ → Costs
of_cost cost = record no_costs { cost = cost }

-- the binary logarithm of N, r and t of yescrypt
abbrev pub of_ln_r_t : ℕ → ℕ → ℕ → Costs
of_ln_r_t ln r t = record no_costs { ln = ln; r = r; t = t }

-- the binary logarithm of N, r and p of scrypt (RFC 7914)
abbrev pub of_ln_r_p : ℕ → ℕ → ℕ → Costs
of_ln_r_p ln r p = record no_costs { ln = ln; r = r; p = p }

-- the memory, the passes and the lanes of Argon2 (RFC 9106)
abbrev pub of_m_t_p : ℕ → ℕ → ℕ → Costs
of_m_t_p m t p = record no_costs { m = m; t = t; p = p }

-- one of the numbers is above its limit
abbrev pub is_above : Costs → Costs → Bool
is_above limit costs =
    nat_lt limit.rounds costs.rounds || nat_lt limit.cost costs.cost || nat_lt limit.ln costs.ln || nat_lt limit.r costs.r
    || nat_lt limit.p costs.p || nat_lt limit.t costs.t || nat_lt limit.m costs.m

-- ---- the numbers of a family; texts of some schemes ask for none

abbrev pub costs_of : SchemeCosts → CostFamily → Costs
costs_of costs of.NoNumber = no_costs
costs_of costs of.ShaCrypt = costs.sha_crypt
costs_of costs of.Bcrypt = costs.bcrypt
costs_of costs of.Yescrypt = costs.yescrypt
costs_of costs of.Scrypt = costs.scrypt
costs_of costs of.Pbkdf2Sha256 = costs.pbkdf2_sha256
costs_of costs of.Pbkdf2Sha512 = costs.pbkdf2_sha512
costs_of costs of.Argon2 = costs.argon2
