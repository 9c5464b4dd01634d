-- The token that parts stand for.
use Rattle.qk_report.specs.Token.{TokenData}
use Rattle.qk_report.specs.declared.token.TokenParts.{TokenParts}

abbrev pub parts_in : TokenParts → TokenData
parts_in p = record { property = p.property; seed = p.seed; attempt = p.attempt; size = p.size; fuel = p.fuel; path = p.path.now }
