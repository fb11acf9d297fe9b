mod Upgrades
