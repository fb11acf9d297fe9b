mod Themselves
